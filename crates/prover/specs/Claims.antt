-- What a search goes by.
use Rattle.std.specs.Prelude.{◌≡◌}
use Rattle.psl_tree.specs.Trees.{formula_of}
use Rattle.owed.specs.Owed.{plain_owed}
use Rattle.owed.specs.Violations.{violation_of}
use Rattle.run_terms.specs.Automata.{TestsSignals}
use Rattle.prover.specs.Tasks.{IsProvable}
use Rattle.prover.specs.declared.claim.Claim.{Claim}
use Rattle.prover.specs.declared.context.Prover.{Prover}
use Rattle.prover.specs.declared.task.Task.{Task}

-- what is owed, and the automaton of its violations
pub record IsClaimOf (task : Task) (claim : Claim) : Type 0 where
  pub owed : formula_of claim.owed ≡ plain_owed task.unit.now task.directive.now
  pub violation : claim.violation ≡ violation_of task.unit.now task.directive.now
  pub tests : TestsSignals task.netlist.now claim.violation

-- a task that can be proved, with what is owed
pub record IsReady (prover : Prover) : Type 0 where
  pub provable : IsProvable prover.task
  pub claim : IsClaimOf prover.task prover.claim.now
