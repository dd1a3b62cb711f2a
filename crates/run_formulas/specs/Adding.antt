-- What adding clauses to a formula does, and the formula of a circuit whose last position is held too.
use Rattle.std.specs.Prelude.{◌≡◌, ◌+◌, ◌*◌, ◌<◌, ℕ, suc, ℤ, List, ◌++◌, length, Result, IfErr, OnOk}
use Rattle.clauses.specs.declared.cnf.Cnf.{Cnf}
use Rattle.clauses.specs.declared.flat.CnfFault.{CnfFault}
use Rattle.clauses.specs.declared.flat.TheConstants.{MOST_WORDS}
use Rattle.clauses.specs.Literals.{clause_words}
use Rattle.gates_theory.specs.declared.circuit.Circuit.{Circuit}
use Rattle.gates_theory.specs.Unrolled.{units, unrolled}

-- the clauses were added behind the old ones; or there would be too many words; or memory was refused
pub record Adds {A : Type 0} (old new : Cnf) (more : List (List ℤ)) (result : Result A CnfFault) : Type 0 where
  pub variables : new.variables ≡ old.variables
  pub ok : OnOk result (new.clauses ≡ old.clauses ++ more)
  pub large : IfErr result (λ fault. fault ≡ CnfFault.TooLarge → MOST_WORDS < clause_words old.clauses + clause_words more)

-- a circuit at the positions up to the last one, where it is held too
abbrev pub held_to : Circuit → ℕ → List (List ℤ)
held_to circuit last = unrolled circuit (suc last) ++ units (last * length circuit.gates) circuit.hold
