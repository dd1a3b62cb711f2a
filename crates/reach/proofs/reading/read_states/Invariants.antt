use Rattle.std.proofs.Common.{take}
use Rattle.reach.specs.Readings.{AreRead}
use Rattle.reach.proofs.reading.read_states.Given as goal

abbrev pub invariant-loop-place : goal.invariant-loop-place
invariant-loop-place l = AreRead l.joint (take l.place l.path) l.states
