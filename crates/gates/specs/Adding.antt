-- What adding clauses to others does.
use Rattle.std.specs.Prelude.{◌≡◌, ◌≤◌, ℕ, ℤ, List, [], ◌∷◌, ◌++◌, length, take, Result, IfErr, OnOk, OnErr}
use Rattle.clauses.specs.declared.flat.CnfFault.{CnfFault}
use Rattle.clauses.specs.declared.flat.TheConstants.{MOST_VARIABLES, MOST_WORDS}
use Rattle.clauses.specs.Literals.{clause_words}
use Rattle.gates_theory.specs.declared.circuit.Circuit.{Circuit}
use Rattle.gates_theory.specs.Distinct.{differences, following}

-- there may be so many words, with the clauses that are to be added
pub record FitsWith (old more : List (List ℤ)) : Type 0 where
  pub few : clause_words (old ++ more) ≤ MOST_WORDS

-- The clauses were added; or memory was refused, and the old ones are the first of those that are there.
pub record Adds {A : Type 0} (old new more : List (List ℤ)) (result : Result A CnfFault) : Type 0 where
  pub ok : OnOk result (new ≡ old ++ more)
  pub err : OnErr result (take (length old) new ≡ old)
  pub memory : IfErr result (λ fault. fault ≡ CnfFault.NoMemory)

-- there may be so many variables and words
pub record AreFew (variables : ℕ) (clauses : List (List ℤ)) : Type 0 where
  pub few_variables : variables ≤ MOST_VARIABLES
  pub few_words : clause_words clauses ≤ MOST_WORDS

-- the states are different at two positions whose gates follow so many variables
abbrev pub pair_of : Circuit → ℕ → ℕ → ℕ → List (List ℤ)
pair_of circuit variables low high =
    differences variables low high circuit.now ++ following variables (length circuit.now) ∷ []
