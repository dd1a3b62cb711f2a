use Rattle.std.proofs.Common.{◌≡◌}
use Rattle.psl_sugar.specs.Booleans.{bit_of, disjunction_of}
use Rattle.psl_sugar.proofs.boolean.MeasuredBool.some_bit.Given as goal

abbrev pub invariant-loop-more : goal.invariant-loop-more
invariant-loop-more l = l.all ≡ disjunction_of (bit_of l.vector) l.more
