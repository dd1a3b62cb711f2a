use Rattle.cdcl_incremental.proofs.Cores.{on_true_weaker, traced_of}
use Rattle.cdcl_incremental.proofs.final_core.trace.Goals as goal

pub returns : goal.returns
returns c =
    on_true_weaker c.is_clear.result
    (λ clear. traced_of c.args.propagator.now c.args.assumed.now c.args.flags.now c.explain_all.new.flags c.take_assumed.new.flags c.args.core.now.items c.take_assumed.new.core.items
    c.explain_all.ensures (rw c.trail.ensures.is at c.in_ok-take_assumed.ensures) clear)
    c.is_clear.ensures
