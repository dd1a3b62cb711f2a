use Rattle.std.proofs.Common.{◌≡◌, map}
use Rattle.std.specs.List.{range_with_len}
use Rattle.trace_buses.proofs.buses.all_buses.Given as goal
use Rattle.trace_buses.specs.Buses.{bus_at}

abbrev pub invariant-loop-signal : goal.invariant-loop-signal
invariant-loop-signal l = l.buses.items ≡ map (bus_at l.names) (range_with_len 0 l.signal)
