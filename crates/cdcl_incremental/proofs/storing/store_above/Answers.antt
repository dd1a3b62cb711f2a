use Rattle.std.proofs.Common.{arith}
use Rattle.cdcl_incremental.proofs.Rests.{watch_at}
use Rattle.cdcl_incremental.proofs.storing.store_above.Goals as goal

pub attach-requires-clause-first_watch : goal.attach-requires-clause-first_watch
attach-requires-clause-first_watch c =
    let watches = c.in-Some.watches in
    let are = rw c.trail.ensures.is at c.in-Some.ensures in
    watch_at c.args.propagator.now c.go_back_to.new.propagator c.args.clause.now watches.first watches.levels are.first (omega (arith, c.if-watches-eq0.false)) c.go_back_to.ensures.literals

pub attach-requires-clause-second_watch : goal.attach-requires-clause-second_watch
attach-requires-clause-second_watch c =
    let watches = c.in-Some.watches in
    let are = rw c.trail.ensures.is at c.in-Some.ensures in
    watch_at c.args.propagator.now c.go_back_to.new.propagator c.args.clause.now watches.second watches.levels are.second (omega (arith, c.if-watches-eq0.false)) c.go_back_to.ensures.literals
