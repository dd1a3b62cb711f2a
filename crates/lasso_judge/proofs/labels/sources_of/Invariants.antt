use Rattle.lasso_judge.specs.Labels.{AreSources}
use Rattle.lasso_judge.proofs.labels.sources_of.Given as goal

abbrev pub invariant-loop-state : goal.invariant-loop-state
invariant-loop-state l = AreSources l.chart l.state l.lists.items
