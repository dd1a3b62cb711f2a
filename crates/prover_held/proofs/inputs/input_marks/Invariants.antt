use Rattle.prover_held.proofs.Marks.{AreMarked}
use Rattle.prover_held.proofs.inputs.input_marks.Given as goal

abbrev pub invariant-loop-signal : goal.invariant-loop-signal
invariant-loop-signal l = AreMarked l.netlist.inputs l.netlist.signals l.signal-index l.marks
