use Rattle.std.proofs.Common.{suc}
use Rattle.prover.proofs.Kept.{kept-stays}
use Rattle.prover.proofs.context.Prover.open_first.Goals as goal

pub tell-requires-clause-holds : goal.tell-requires-clause-holds
tell-requires-clause-holds g c = kept-stays c.args.self.task (suc c.args.self.task.options.visits) 1 c.in_ok-paths.paths c.in_ok-paths.ensures.paths
