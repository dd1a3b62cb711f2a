use Rattle.lasso_judge.specs.Labels.{AreAlike}
use Rattle.lasso_judge.proofs.labels.are_alike.Given as goal

abbrev pub invariant-loop-index : goal.invariant-loop-index
invariant-loop-index l = AreAlike l.chart l.numbers l.index
