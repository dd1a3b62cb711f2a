use Rattle.std.proofs.Common.{◌≡◌, take, None}
use Rattle.replay.proofs.bits.missing_input.Given as goal
use Rattle.replay.specs.ByBits.{missing_among}

abbrev pub invariant-loop-signal : goal.invariant-loop-signal
invariant-loop-signal l = missing_among l.bits (take l.signal-index l.signals) ≡ None
