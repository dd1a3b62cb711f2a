use Rattle.std.proofs.Common.{◌≡◌}
use Rattle.psl_sugar.specs.Comparisons.{less_within}
use Rattle.psl_sugar.proofs.boolean.MeasuredBool.less.Given as goal

abbrev pub invariant-loop-place : goal.invariant-loop-place
invariant-loop-place l = l.is_less ≡ less_within l.left l.right l.place
