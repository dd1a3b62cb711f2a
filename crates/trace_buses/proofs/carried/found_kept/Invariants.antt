use Rattle.std.proofs.Common.{◌≡◌, map, None}
use Rattle.std.specs.List.{range_with_len}
use Rattle.std.specs.Prelude.{slice_index_or}
use Rattle.trace_buses.proofs.carried.found_kept.Given as goal
use Rattle.trace_buses.specs.Buses.{is_kept}

abbrev pub invariant-loop-signal : goal.invariant-loop-signal
invariant-loop-signal l = l.kept.items ≡ map (λ signal. is_kept l.names l.vectors (slice_index_or l.buses signal None)) (range_with_len 0 l.signal)
