use Rattle.std.proofs.Common.{◌≡◌, map, take}
use Rattle.commands.proofs.settled.settlements.Given as goal
use Rattle.commands.specs.Settled.{settled_of}

abbrev pub invariant-loop-point : goal.invariant-loop-point
invariant-loop-point l = l.settled ≡ map (settled_of l.fn.recording) (take l.point-index l.points)
