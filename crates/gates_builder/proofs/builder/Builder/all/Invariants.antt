use Rattle.std.proofs.Common.{drop}
use Rattle.gates_nodes.specs.Folding.{conjoined_all}
use Rattle.gates_builder.proofs.Loops.{SoFar, joining}
use Rattle.gates_builder.proofs.builder.Builder.all.Given as goal

abbrev pub invariant-loop-i : goal.invariant-loop-i
invariant-loop-i l =
    SoFar (joining l.initial.self.given) l.initial.self l.self l.output (drop l.i l.literals) (conjoined_all l.initial.self.given l.initial.self.nodes l.literals)
