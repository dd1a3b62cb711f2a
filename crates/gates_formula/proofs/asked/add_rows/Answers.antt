use Rattle.gates_nodes.proofs.Cubes.{cubes-within}
use Rattle.gates_formula.proofs.asked.add_rows.Goals as goal

pub add_implied-requires-clause-cubes : goal.add_implied-requires-clause-cubes
add_implied-requires-clause-cubes c =
    rw (c.as_slice.ensures, c.in_ok-cubes.ensures) (cubes-within c.args.cnf.now.variables c.args.given c.args.rows.now c.args.literals.now c.requires.given c.requires.literals)
