use Rattle.std.proofs.Common.{◌≡◌, drop}
use Rattle.std.specs.List.{list_all}
use Rattle.trace_buses.proofs.carried.are_carried.Given as goal
use Rattle.trace_buses.specs.Buses.{is_carried}

abbrev pub invariant-loop-signal : goal.invariant-loop-signal
invariant-loop-signal l = list_all (is_carried l.names l.vectors) (drop l.signal-index l.signals) ≡ list_all (is_carried l.names l.vectors) l.signals
