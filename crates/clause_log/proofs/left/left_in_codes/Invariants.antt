use Rattle.std.proofs.Common.{take}
use Rattle.clause_log.specs.Codes.{clause_of_codes}
use Rattle.clause_log.specs.Lefts.{LeavesOf}
use Rattle.clause_log.proofs.left.left_in_codes.Given as goal

abbrev pub invariant-loop-code : goal.invariant-loop-code
invariant-loop-code l = LeavesOf l.set.members (clause_of_codes (take l.code-index l.codes)) l.left
