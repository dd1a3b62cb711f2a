use Rattle.std.proofs.Common.{◌≡◌, ◌++◌, drop}
use Rattle.lasso_judge.specs.Labels.{left_by}
use Rattle.lasso_judge.proofs.labels.left_by.Given as goal

abbrev pub invariant-loop-number : goal.invariant-loop-number
invariant-loop-number l = l.states ++ left_by l.chart.arrows.items (drop l.number-index l.numbers) ≡ left_by l.chart.arrows.items l.numbers
