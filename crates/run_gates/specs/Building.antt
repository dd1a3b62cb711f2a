-- What adding the gates of a term does.
use Rattle.std.specs.Prelude.{◌≡◌, ℕ, suc, ◌+◌, ◌<◌, ℤ, pos, neg_ℤ, List, [], ◌∷◌, ◌++◌, map, length, Option, None, Some, Result, IfOk, IfErr, OnOk, IsTrue}
use Rattle.clauses.specs.declared.flat.CnfFault.{CnfFault}
use Rattle.clauses.specs.declared.flat.TheConstants.{MOST_VARIABLES}
use Rattle.clauses.specs.Literals.{is_literal}
use Rattle.gates_theory.specs.declared.circuit.Gate.{Gate}
use Rattle.gates_theory.specs.Terms.{Term, Built, built, built_all, term_size, with_conjunction}
use Rattle.gates_theory.specs.Terms.Term.{Literal, Negation, Conjunction}
use Rattle.run_terms.specs.Booleans.{either}
use Rattle.run_terms.specs.Sizes.{terms_size}
use Rattle.run_terms.specs.Tables.{guarded}

-- there are more gates than there may be, with so many more
abbrev pub IsTooMany : ℕ → ℕ → Type 0
IsTooMany gates more = MOST_VARIABLES < gates + more

-- The gates of a term stand behind the old ones, and the result is the literal of its value; or there are too many.
pub record Builds (old new : List Gate) (term : Term) (result : Result ℤ CnfFault) : Type 0 where
  pub gates : OnOk result (new ≡ (built old term).gates)
  pub output : IfOk result (λ output. output ≡ (built old term).output)
  pub literal : IfOk result (λ output. IsTrue (is_literal output))
  pub size : OnOk result (length new ≡ length old + term_size term)
  pub large : IfErr result (λ fault. fault ≡ CnfFault.TooLarge → IsTooMany (length old) (term_size term))

-- gates, and the literal of one of two literals
abbrev pub with_either : List Gate → ℤ → ℤ → Built
with_either gates first second = record {
  gates = (with_conjunction gates (neg_ℤ first) (neg_ℤ second)).gates;
  output = neg_ℤ (with_conjunction gates (neg_ℤ first) (neg_ℤ second)).output;
}

-- a literal is joined to one that was found before; the first one stands alone
abbrev pub join_at : (List Gate → ℤ → ℤ → Built) → List Gate → Option ℤ → ℤ → Built
join_at with_both gates None literal = record { gates = gates; output = literal }
join_at with_both gates (Some found) literal = with_both gates found literal

abbrev pub join_size : Option ℤ → ℕ
join_size None = 0
join_size (Some _) = 1

-- the gates of a join stand behind the old ones, and the result is its literal; or there are too many
pub record Joins (with_both : List Gate → ℤ → ℤ → Built) (old new : List Gate) (found : Option ℤ) (other : ℤ) (result : Result ℤ CnfFault) : Type 0 where
  pub gates : OnOk result (new ≡ (join_at with_both old found other).gates)
  pub output : IfOk result (λ output. output ≡ (join_at with_both old found other).output)
  pub literal : IfOk result (λ output. IsTrue (is_literal output))
  pub size : OnOk result (length new ≡ length old + join_size found)
  pub large : IfErr result (λ fault. fault ≡ CnfFault.TooLarge → IsTooMany (length old) (join_size found))

-- the literal of a signal, where so many variables are before those of the signals
abbrev pub place_at : ℕ → ℕ → ℤ
place_at offset signal = pos (suc (offset + signal))

-- literals that are held; where there is a guard, what is held from then on counts only where it is true
pub record Holding : Type 0 where
  pub guard : Option ℤ
  pub literals : List ℤ

-- a term, and each of some terms, under a guard if there is one
abbrev pub kept : Option ℤ → Term → Term
kept None term = term
kept (Some guard) term = guarded guard term

abbrev pub kept_all : Option ℤ → List Term → List Term
kept_all None terms = terms
kept_all (Some guard) terms = map (guarded guard) terms

-- gates, and the literal of one that counts only where a guard is true, if there is one
abbrev pub keep_at : List Gate → Option ℤ → ℤ → Built
keep_at gates None literal = record { gates = gates; output = literal }
keep_at gates (Some guard) literal = record {
  gates = (with_conjunction gates guard (neg_ℤ literal)).gates;
  output = neg_ℤ (with_conjunction gates guard (neg_ℤ literal)).output;
}

-- one literal more is held; or there are too many gates
pub record Holds (old new : List Gate) (old_held new_held : Holding) (literal : ℤ) (result : Result (Unit {0}) CnfFault) : Type 0 where
  pub gates : OnOk result (new ≡ (keep_at old old_held.guard literal).gates)
  pub held : OnOk result (new_held.literals ≡ old_held.literals ++ (keep_at old old_held.guard literal).output ∷ [])
  pub guard : OnOk result (new_held.guard ≡ old_held.guard)
  pub size : OnOk result (length new ≡ length old + join_size old_held.guard)
  pub large : IfErr result (λ fault. fault ≡ CnfFault.TooLarge → IsTooMany (length old) (join_size old_held.guard))

-- The gates of some terms stand behind the old ones, each under the guard if there is one, and their literals are held
-- behind the old ones; or there are too many gates.
pub record BuildsAll (old new : List Gate) (old_held new_held : Holding) (terms : List Term) (result : Result (Unit {0}) CnfFault) : Type 0 where
  pub gates : OnOk result (new ≡ (built_all old (kept_all old_held.guard terms)).gates)
  pub held : OnOk result (new_held.literals ≡ old_held.literals ++ (built_all old (kept_all old_held.guard terms)).outputs)
  pub guard : OnOk result (new_held.guard ≡ old_held.guard)
  pub size : OnOk result (length new ≡ length old + terms_size (kept_all old_held.guard terms))
  pub large : IfErr result (λ fault. fault ≡ CnfFault.TooLarge
      → IsTooMany (length old) (terms_size (kept_all old_held.guard terms)))

-- a digit is less than another, or more
abbrev pub less_term : ℤ → ℤ → Term
less_term first second = Conjunction (Negation (Literal first)) (Literal second)

abbrev pub more_term : ℤ → ℤ → Term
more_term first second = Conjunction (Literal first) (Negation (Literal second))

-- the digits so far of a number say that it is not at most another one, with one more of each
abbrev pub digit_term : Term → ℤ → ℤ → Term
digit_term above first second = either (Conjunction above (Negation (less_term first second))) (more_term first second)
