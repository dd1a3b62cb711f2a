use Rattle.lasso_judge.specs.Labels.{AreUniform}
use Rattle.lasso_judge.proofs.labels.uniform.Given as goal

abbrev pub invariant-loop-state : goal.invariant-loop-state
invariant-loop-state l = AreUniform l.chart l.state l.marks.items
