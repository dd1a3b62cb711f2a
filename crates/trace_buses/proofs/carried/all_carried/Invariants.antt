use Rattle.std.proofs.Common.{◌≡◌, true}
use Rattle.std.specs.List.{list_all, range_with_len}
use Rattle.trace_buses.proofs.carried.all_carried.Given as goal
use Rattle.trace_buses.specs.Buses.{is_carried}

abbrev pub invariant-loop-signal : goal.invariant-loop-signal
invariant-loop-signal l = list_all (is_carried l.names l.vectors) (range_with_len 0 l.signal) ≡ true
