use Rattle.std.proofs.Common.{length}
use Rattle.test_solver.proofs.solving.has_drop.Given as goal

abbrev pub decreases-loop-entry : goal.decreases-loop-entry
decreases-loop-entry l = length l.entries
