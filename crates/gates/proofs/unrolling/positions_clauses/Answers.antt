use Rattle.std.proofs.Common.{arith}
use Rattle.gates_theory.specs.Unrolled.{position_clauses}
use Rattle.gates.proofs.Words.{fits-next}
use Rattle.gates.proofs.unrolling.positions_clauses.Goals as goal

pub add_position-requires-clause-fits : goal.add_position-requires-clause-fits
add_position-requires-clause-fits c =
    rw c.loop-position.invariant
    (fits-next (position_clauses c.args.circuit.now) c.args.positions c.loop-position.position (omega arith) c.requires.few.few_words)
