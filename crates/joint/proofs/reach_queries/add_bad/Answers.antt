use Rattle.gates_theory.proofs.Within.{wider_all}
use Rattle.joint.proofs.reach_queries.add_bad.Goals as goal

pub add_met_clauses-requires : goal.add_met_clauses-requires
add_met_clauses-requires c =
    wider_all c.args.product.width c.args.cnf.now.variables c.requires.fits c.args.clauses.now c.requires.within
