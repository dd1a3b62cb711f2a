use Rattle.std.proofs.Common.{drop}
use Rattle.gates_nodes.specs.Tables.{some_row, with_row}
use Rattle.gates_builder.proofs.Loops.{SoFar}
use Rattle.gates_builder.proofs.builder.Builder.rows.Given as goal

abbrev pub invariant-loop-i : goal.invariant-loop-i
invariant-loop-i l =
    SoFar (with_row l.initial.self.given l.literals) l.initial.self l.self l.output (drop l.i l.rows) (some_row l.initial.self.given l.initial.self.nodes l.rows l.literals)
