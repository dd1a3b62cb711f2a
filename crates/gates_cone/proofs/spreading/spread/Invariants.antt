use Rattle.std.proofs.Common.{◌-◌}
use Rattle.gates_cone.proofs.Closing.{SoFar}
use Rattle.gates_cone.proofs.spreading.spread.Given as goal

abbrev pub invariant-loop-next : goal.invariant-loop-next
invariant-loop-next l = SoFar l.netlist l.drivers l.initial.kept l.kept l.found.items l.next

abbrev pub decreases-loop-next : goal.decreases-loop-next
decreases-loop-next l = l.netlist.signals - l.next
