use Rattle.cdcl_incremental.proofs.Rests.{IsRestTo}
use Rattle.cdcl_incremental.proofs.storing.rest_of.Given as goal

abbrev pub invariant-loop-literal : goal.invariant-loop-literal
invariant-loop-literal l = IsRestTo l.trail.literals l.clause l.literal-index l.rest.items
