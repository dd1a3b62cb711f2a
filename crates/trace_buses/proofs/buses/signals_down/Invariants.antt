use Rattle.std.proofs.Common.{◌≡◌, Some}
use Rattle.trace_buses.proofs.buses.signals_down.Given as goal
use Rattle.trace_buses.specs.Buses.{signals_down}

abbrev pub invariant-loop-distance : goal.invariant-loop-distance
invariant-loop-distance l = signals_down l.names l.text l.high l.distance ≡ Some l.signals
