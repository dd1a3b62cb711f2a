use Rattle.std.proofs.Common.{below_more}
use Rattle.cdcl_incremental.proofs.assuming.first_open.Goals as goal

pub loop-place-preserved : goal.loop-place-preserved
loop-place-preserved c = below_more _ _ c.loop-place.invariant (λ _. c.is_true.ensures.0 c.if-not-is_true.false)
