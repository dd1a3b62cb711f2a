use Rattle.std.proofs.Common.{length}
use Rattle.gates_cone.specs.Drivers.{AreNoted}
use Rattle.gates_cone.proofs.drivers.note_latches.Given as goal

abbrev pub invariant-loop-number : goal.invariant-loop-number
invariant-loop-number l = AreNoted l.netlist (length l.netlist.tables) l.number l.drivers
