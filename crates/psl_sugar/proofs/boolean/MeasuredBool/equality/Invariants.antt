use Rattle.std.proofs.Common.{◌≡◌, ℕ, ◌-◌}
use Rattle.psl_sugar.specs.Booleans.{conjunction_of}
use Rattle.psl_sugar.specs.Comparisons.{same_bit}
use Rattle.psl_sugar.proofs.boolean.MeasuredBool.equality.Given as goal

abbrev pub invariant-loop-more : goal.invariant-loop-more
invariant-loop-more l = l.all ≡ conjunction_of (λ (more : ℕ). same_bit l.left l.right (l.leftmost - more)) l.more
