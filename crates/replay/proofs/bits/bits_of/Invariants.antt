use Rattle.std.proofs.Common.{◌≡◌, map}
use Rattle.std.specs.List.{range_with_len}
use Rattle.replay.proofs.bits.bits_of.Given as goal
use Rattle.replay.specs.Recorded.{recorded}

abbrev pub invariant-loop-signal : goal.invariant-loop-signal
invariant-loop-signal l = l.bits.items ≡ map (recorded l.netlist l.recording) (range_with_len 0 l.signal)
