use Rattle.gates_theory.proofs.Within.{wider, wider_all}
use Rattle.joint.proofs.reach_queries.add_leading.Goals as goal

pub add_met_clauses-requires : goal.add_met_clauses-requires
add_met_clauses-requires c = wider_all c.args.product.width c.args.cnf.now.variables c.requires.fits c.args.frame.now c.requires.frame

pub add_outside-requires : goal.add_outside-requires
add_outside-requires c =
    rw c.in_ok-add_met_clauses.ensures.variables (wider c.args.product.width c.args.cnf.now.variables c.requires.fits c.args.cube.now c.requires.cube)
