use Rattle.std.proofs.Common.{◌≡◌}
use Rattle.trace.proofs.lengths.values_length.Given as goal
use Rattle.trace.specs.Codes.{codes_of}
use Rattle.trace.specs.Lengths.{values_size, within}

abbrev pub invariant-loop-signal : goal.invariant-loop-signal
invariant-loop-signal l = l.sum ≡ within l.most (values_size (codes_of l.signal))
