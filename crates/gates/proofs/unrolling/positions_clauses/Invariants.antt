use Rattle.std.proofs.Common.{◌≡◌}
use Rattle.gates_theory.specs.Unrolled.{unrolled}
use Rattle.gates.proofs.unrolling.positions_clauses.Given as goal

abbrev pub invariant-loop-position : goal.invariant-loop-position
invariant-loop-position l = l.clauses ≡ unrolled l.circuit l.position
