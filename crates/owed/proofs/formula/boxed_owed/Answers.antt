use Rattle.owed.proofs.Answering.{owed-under}
use Rattle.owed.proofs.formula.boxed_owed.Goals as goal
use Rattle.owed.specs.Boxed.{formula_in}
use Rattle.psl_tree.specs.Trees.{formula_of}

pub returns : goal.returns
returns c = owed-under (formula_of c.in_ok-owed.owed.value) (formula_of c.in_ok-formula.formula.value) (formula_in c.in_ok-assumed.assumed)
    c.args.unit.now c.args.directive.now c.in_ok-owed.ensures c.in_ok-assumed.ensures (rw c.in_ok-formula.ensures c.in_ok-unclock.ensures.table)
