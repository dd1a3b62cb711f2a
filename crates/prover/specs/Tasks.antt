-- What can be proved: within which limits.
use Rattle.std.specs.Prelude.{◌≡◌, ◌≤◌, true, All}
use Rattle.psl_tree.specs.Atoms.{AtomsOfFormula}
use Rattle.psl_tree.specs.Names.{AtomInRange}
use Rattle.psl_tree.specs.Trees.{formula_of}
use Rattle.owed.specs.Owed.{plain_owed}
use Rattle.owed.specs.Sized.{IsSized}
use Rattle.prover.specs.declared.task.Task.{Task}

-- what is owed is within the limits, all that the text names are signals of the netlist, and the options are in their
-- ranges, that of the depth where inductive clauses are sought, too
pub record IsProvable (task : Task) : Type 0 where
  pub sized : IsSized task.netlist.now task.options.depth (plain_owed task.unit.now task.directive.now)
  pub unit : All (λ directive. AtomsOfFormula (AtomInRange task.netlist.now.names) (formula_of directive.formula))
      task.unit.now
  pub directive : AtomsOfFormula (AtomInRange task.netlist.now.names) (formula_of task.directive.now.formula)
  pub depth : 1 ≤ task.options.depth
  pub visits : task.options.visits ≤ 16
  pub few : task.options.reach ≡ true → task.options.depth ≤ 1000
