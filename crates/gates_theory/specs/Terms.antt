-- Terms over literals, and the gates that compute them.
use Rattle.std.specs.Prelude.{ℕ, suc, ◌+◌, ℤ, pos, negsuc, neg_ℤ, Bool, not, ◌&&◌, List, [], ◌∷◌, ◌++◌, length}
use Rattle.clauses.specs.Literals.{is_within}
use Rattle.clauses.specs.Models.{Assignment, is_true}
use Rattle.gates_theory.specs.declared.circuit.Gate.{Gate}
use Rattle.gates_theory.specs.declared.circuit.Gate.TheVariants.{And}
use Rattle.gates_theory.specs.Circuits.{same}

-- a literal; the negation of a term; the conjunction of two terms; and whether two terms have one value
pub data Term : Type 0 where
  Literal : ℤ → Term
  Negation : Term → Term
  Conjunction : Term → Term → Term
  Equality : Term → Term → Term

-- the value of a term
abbrev pub value : Assignment → Term → Bool
value values (Literal literal) = is_true values literal
value values (Negation term) = not (value values term)
value values (Conjunction first second) = value values first && value values second
value values (Equality first second) = same (value values first) (value values second)

-- the literals of a term are of the first so many variables
abbrev pub term_within : ℕ → Term → Bool
term_within variables (Literal literal) = is_within variables literal
term_within variables (Negation term) = term_within variables term
term_within variables (Conjunction first second) = term_within variables first && term_within variables second
term_within variables (Equality first second) = term_within variables first && term_within variables second

-- how many gates a term takes
abbrev pub term_size : Term → ℕ
term_size (Literal literal) = 0
term_size (Negation term) = term_size term
term_size (Conjunction first second) = term_size first + term_size second + 1
term_size (Equality first second) = term_size first + term_size second + 3

-- gates, and the literal of a term that they compute
pub record Built : Type 0 where
  pub gates : List Gate
  pub output : ℤ

-- one more gate, which is the conjunction of two literals
abbrev pub with_conjunction : List Gate → ℤ → ℤ → Built
with_conjunction gates first second = record {
  gates = gates ++ And first second ∷ [];
  output = pos (suc (length gates));
}

-- Three more gates: whether both literals are true, whether both are false, and whether neither is so. The negation of
-- the last is whether they have one value.
abbrev pub with_equality : List Gate → ℤ → ℤ → Built
with_equality gates first second = record {
  gates = gates ++ And first second ∷ And (neg_ℤ first) (neg_ℤ second)
      ∷ And (negsuc (length gates)) (negsuc (suc (length gates))) ∷ [];
  output = negsuc (suc (suc (length gates)));
}

-- the gates of a term behind others
abbrev pub built : List Gate → Term → Built
built gates (Literal literal) = record { gates = gates; output = literal }
built gates (Negation term) = record { gates = (built gates term).gates; output = neg_ℤ (built gates term).output }
built gates (Conjunction first second) =
    with_conjunction (built (built gates first).gates second).gates
    (built gates first).output (built (built gates first).gates second).output
built gates (Equality first second) =
    with_equality (built (built gates first).gates second).gates
    (built gates first).output (built (built gates first).gates second).output

-- the gates and the literals of terms behind others
pub record BuiltAll : Type 0 where
  pub gates : List Gate
  pub outputs : List ℤ

abbrev pub built_all : List Gate → List Term → BuiltAll
built_all gates [] = record { gates = gates; outputs = [] }
built_all gates (term ∷ terms) = record {
  gates = (built_all (built gates term).gates terms).gates;
  outputs = (built gates term).output ∷ (built_all (built gates term).gates terms).outputs;
}
