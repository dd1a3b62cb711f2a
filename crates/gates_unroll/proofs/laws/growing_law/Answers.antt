use Rattle.gates_unroll.proofs.Later.{first-more, later-more}
use Rattle.gates_unroll.proofs.laws.growing_law.Goals as goal

pub returns-clause-first : goal.returns-clause-first
returns-clause-first c covers given design order cone initial nodes = first-more covers given design order cone initial nodes

pub returns-clause-later : goal.returns-clause-later
returns-clause-later c covers given design order cone initial nodes number later order_is = later-more covers given design order cone initial nodes number later order_is
