use Rattle.std.proofs.Common.{◌≡◌, length}
use Rattle.trace.proofs.lengths.declarations_length.Given as goal
use Rattle.trace.specs.Lengths.{within}
use Rattle.trace.specs.Trace.{declarations}

abbrev pub invariant-loop-signal : goal.invariant-loop-signal
invariant-loop-signal l = l.sum ≡ within l.most (length (declarations l.names l.signal))
