use Rattle.std.proofs.Common.{drop, fold}
use Rattle.netlist.specs.Valuations.{bit}
use Rattle.gates_frames.specs.Frames.{with_input}
use Rattle.gates_unroll.specs.Adding.{frame_of}
use Rattle.gates_unroll.proofs.Folds.{SoFar}
use Rattle.gates_unroll.proofs.inputs.add_inputs.Given as goal

abbrev pub invariant-loop-i : goal.invariant-loop-i
invariant-loop-i l =
    SoFar (with_input l.initial.builder.given (bit l.cone) l.number) l.initial.builder l.builder l.literals (drop l.i l.inputs)
    (fold (with_input l.initial.builder.given (bit l.cone) l.number) (frame_of l.initial.builder l.initial.literals) l.inputs)
