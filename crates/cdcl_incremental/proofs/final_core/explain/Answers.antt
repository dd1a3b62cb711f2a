use Rattle.std.proofs.Common.{get_or}
use Rattle.cdcl_incremental.proofs.Cores.{implies_explained}
use Rattle.cdcl_incremental.proofs.final_core.explain.Goals as goal

pub returns-then-flag_others : goal.returns-then-flag_others
returns-then-flag_others c =
    implies_explained c.args.propagator.now (get_or c.reasons.result.now c.args.place 0) c.in-Some.clause.now c.args.flags.now c.flag_others.new.flags c.args.place c.in-Some.ensures.some
    (rw c.trail-trail.ensures.is at c.if-flag_others.ensures.all) c.flag_others.ensures.more
