use Rattle.std.proofs.Common.{drop, fold}
use Rattle.netlist.specs.Valuations.{bit}
use Rattle.gates_frames.specs.Frames.{with_table}
use Rattle.gates_unroll.specs.Adding.{frame_of}
use Rattle.gates_unroll.proofs.Folds.{SoFar}
use Rattle.gates_unroll.proofs.tables.add_tables.Given as goal

abbrev pub invariant-loop-i : goal.invariant-loop-i
invariant-loop-i l =
    SoFar (with_table l.initial.builder.covers l.initial.builder.given l.tables (bit l.cone)) l.initial.builder l.builder l.literals (drop l.i l.order)
    (fold (with_table l.initial.builder.covers l.initial.builder.given l.tables (bit l.cone)) (frame_of l.initial.builder l.initial.literals) l.order)
