use Rattle.std.proofs.Common.{arith}
use Rattle.gates_theory.proofs.Within.{wider_all}
use Rattle.joint.proofs.reach_queries.add_leaving.Goals as goal

pub add_met_clauses-requires : goal.add_met_clauses-requires
add_met_clauses-requires c =
    wider_all c.args.product.width c.args.cnf.now.variables (omega (arith, c.requires.fits)) c.args.clauses.now c.requires.within
