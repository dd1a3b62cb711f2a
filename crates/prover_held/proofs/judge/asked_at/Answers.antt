use Rattle.prover_held.proofs.Paths.{path-signals}
use Rattle.prover_held.proofs.judge.asked_at.Goals as goal

pub is_met-met-requires-clause-path : goal.is_met-met-requires-clause-path
is_met-met-requires-clause-path c = path-signals c.args.netlist.now c.args.path.now c.requires.path
