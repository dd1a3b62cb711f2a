use Rattle.std.proofs.Common.{◌≤◌}
use Rattle.prover.proofs.searching.size_ahead.Given as goal

abbrev pub invariant-loop-ahead : goal.invariant-loop-ahead
invariant-loop-ahead l = l.ahead ≤ l.fn.depth

abbrev pub decreases-loop-ahead : goal.decreases-loop-ahead
decreases-loop-ahead l = l.ahead
