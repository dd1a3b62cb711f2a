use Rattle.std.proofs.Common.{suc}
use Rattle.prover.proofs.Kept.{kept-stays}
use Rattle.prover.proofs.context.Prover.keep_on.Goals as goal

pub tell-requires-clause-holds : goal.tell-requires-clause-holds
tell-requires-clause-holds g c = kept-stays c.args.self.task (suc c.args.self.task.options.visits) c.args.window c.in_ok-paths.paths c.in_ok-paths.ensures.paths
