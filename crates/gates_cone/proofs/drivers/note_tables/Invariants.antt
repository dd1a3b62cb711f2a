use Rattle.gates_cone.specs.Drivers.{AreNoted}
use Rattle.gates_cone.proofs.drivers.note_tables.Given as goal

abbrev pub invariant-loop-number : goal.invariant-loop-number
invariant-loop-number l = AreNoted l.netlist l.number 0 l.drivers
