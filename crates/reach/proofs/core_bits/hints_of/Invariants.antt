use Rattle.std.proofs.Common.{length}
use Rattle.reach.proofs.core_bits.hints_of.Given as goal

abbrev pub decreases-loop-entry : goal.decreases-loop-entry
decreases-loop-entry l = length l.entries
