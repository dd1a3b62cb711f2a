use Rattle.std.proofs.Common.{◌-◌, drop, length}
use Rattle.psl_names.specs.Ranges.{Tells}
use Rattle.psl_names.proofs.buses.ranges_of.Given as goal

abbrev pub invariant-loop-distance : goal.invariant-loop-distance
invariant-loop-distance l = Tells l.ranges (drop (length l.names - l.distance) l.names)
