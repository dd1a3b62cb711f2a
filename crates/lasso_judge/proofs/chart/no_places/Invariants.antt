use Rattle.std.proofs.Common.{◌≡◌, [], replicate}
use Rattle.lasso_judge.proofs.chart.no_places.Given as goal

abbrev pub invariant-loop-added : goal.invariant-loop-added
invariant-loop-added l = l.lists.items ≡ replicate l._added []
