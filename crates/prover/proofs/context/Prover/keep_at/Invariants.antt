use Rattle.std.proofs.Common.{◌-◌, ◌≤◌}
use Rattle.prover.proofs.context.Prover.keep_at.Given as goal

abbrev pub invariant-loop-ahead : goal.invariant-loop-ahead
invariant-loop-ahead l = l.ahead ≤ l.fn.self.task.options.depth

abbrev pub decreases-loop-ahead : goal.decreases-loop-ahead
decreases-loop-ahead l = l.ahead - l.window
