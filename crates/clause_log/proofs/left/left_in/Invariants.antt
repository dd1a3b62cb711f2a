use Rattle.std.proofs.Common.{take}
use Rattle.clause_log.specs.Lefts.{LeavesOf}
use Rattle.clause_log.proofs.left.left_in.Given as goal

abbrev pub invariant-loop-literal : goal.invariant-loop-literal
invariant-loop-literal l = LeavesOf l.set.members (take l.literal-index l.clause) l.left
