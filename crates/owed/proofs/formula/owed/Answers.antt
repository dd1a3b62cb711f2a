use Rattle.owed.proofs.Answering.{owed-clockless, owed-words, owed-in_range}
use Rattle.owed.proofs.formula.owed.Goals as goal
use Rattle.psl_tree.specs.Trees.{formula_of}

pub returns-clause-no_clock : goal.returns-clause-no_clock
returns-clause-no_clock c = owed-clockless (formula_of c.into_inner.result) c.args.unit.now c.args.directive.now (rw c.into_inner.ensures c.in_ok-formula.ensures)

pub returns-clause-meaning : goal.returns-clause-meaning
returns-clause-meaning c = owed-words (formula_of c.into_inner.result) c.args.unit.now c.args.directive.now (rw c.into_inner.ensures c.in_ok-formula.ensures)

pub returns-clause-in_range : goal.returns-clause-in_range
returns-clause-in_range c = owed-in_range (formula_of c.into_inner.result) c.args.unit.now c.args.directive.now (rw c.into_inner.ensures c.in_ok-formula.ensures)
