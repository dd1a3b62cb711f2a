use Rattle.std.proofs.Common.{◌≡◌, filter, take}
use Rattle.netlist.specs.Valuations.{bit}
use Rattle.bounded.proofs.free.kept_of.Given as goal

abbrev pub invariant-loop-signal : goal.invariant-loop-signal
invariant-loop-signal l = l.those ≡ filter (bit l.kept) (take l.signal-index l.signals)
