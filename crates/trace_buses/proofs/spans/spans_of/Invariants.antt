use Rattle.std.proofs.Common.{◌-◌, drop, length}
use Rattle.trace_buses.specs.Spans.{Tells}
use Rattle.trace_buses.proofs.spans.spans_of.Given as goal

abbrev pub invariant-loop-distance : goal.invariant-loop-distance
invariant-loop-distance l = Tells l.spans (drop (length l.names - l.distance) l.names)
