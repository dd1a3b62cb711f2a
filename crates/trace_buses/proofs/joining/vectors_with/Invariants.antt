use Rattle.std.proofs.Common.{◌≡◌}
use Rattle.std.specs.List.{flat_map, range_with_len}
use Rattle.trace_buses.proofs.joining.vectors_with.Given as goal
use Rattle.trace_buses.specs.Buses.{written_at}

abbrev pub invariant-loop-signal : goal.invariant-loop-signal
invariant-loop-signal l = l.vectors ≡ flat_map (written_at l.buses.names.now l.kept) (range_with_len 0 l.signal)
