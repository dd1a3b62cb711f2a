-- What adding clauses to a formula does.
use Rattle.std.specs.Prelude.{◌≡◌, ◌+◌, ◌<◌, ℤ, List, ◌++◌, Result, IfErr, OnOk}
use Rattle.clauses.specs.declared.cnf.Cnf.{Cnf}
use Rattle.clauses.specs.declared.flat.CnfFault.{CnfFault}
use Rattle.clauses.specs.declared.flat.TheConstants.{MOST_WORDS}
use Rattle.clauses.specs.Literals.{clause_words}

-- the clauses were added behind the old ones; or there would be too many words; or memory was refused
pub record Adds {A : Type 0} (old new : Cnf) (more : List (List ℤ)) (result : Result A CnfFault) : Type 0 where
  pub variables : new.variables ≡ old.variables
  pub ok : OnOk result (new.clauses ≡ old.clauses ++ more)
  pub large : IfErr result (λ fault. fault ≡ CnfFault.TooLarge → MOST_WORDS < clause_words old.clauses + clause_words more)
