use Rattle.std.proofs.Common.{◌≡◌, Some, drop, fold}
use Rattle.gates_nodes.specs.Tables.{asked, left_of, with_literal}
use Rattle.gates_builder.proofs.left.left_of.Given as goal

abbrev pub invariant-loop-i : goal.invariant-loop-i
invariant-loop-i l =
    fold (with_literal l.given) (Some l.left) (asked l.given (drop l.i l.row) (drop l.i l.literals)) ≡ left_of l.given (asked l.given l.row l.literals)
