use Rattle.std.proofs.Common.{◌≡◌, ◌++◌, drop}
use Rattle.gates_nodes.specs.Tables.{cubes}
use Rattle.gates_builder.proofs.left.cubes.Given as goal

abbrev pub invariant-loop-i : goal.invariant-loop-i
invariant-loop-i l = l.cubes ++ cubes l.given (drop l.i l.rows) l.literals ≡ cubes l.given l.rows l.literals
