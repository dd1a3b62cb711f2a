use Rattle.std.proofs.Common.{drop, fold}
use Rattle.netlist.specs.Valuations.{bit}
use Rattle.gates_frames.specs.Frames.{with_latch}
use Rattle.gates_unroll.specs.Adding.{frame_of}
use Rattle.gates_unroll.specs.Sources.{latch_by}
use Rattle.gates_unroll.proofs.Folds.{SoFar}
use Rattle.gates_unroll.proofs.latches.add_latches.Given as goal

abbrev pub invariant-loop-i : goal.invariant-loop-i
invariant-loop-i l =
    SoFar (with_latch (bit l.cone) (latch_by l.source l.initial.builder.given)) l.initial.builder l.builder l.literals (drop l.i l.latches)
    (fold (with_latch (bit l.cone) (latch_by l.source l.initial.builder.given)) (frame_of l.initial.builder l.initial.literals) l.latches)
