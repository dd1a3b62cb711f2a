use Rattle.std.proofs.Common.{◌≡◌}
use Rattle.psl_sugar.specs.Sequences.{times}
use Rattle.psl_sugar.proofs.sequence.MeasuredSere.times.Given as goal

abbrev pub invariant-loop-done : goal.invariant-loop-done
invariant-loop-done l = l.all ≡ times l.done l.fn.self
