use Rattle.clause_log.specs.LiveClauses.{live_clause}
use Rattle.clause_log.proofs.Propagating.{last_hint}
use Rattle.clause_log.proofs.hints.is_falsified.Goals as goal

pub returns-in-Some : goal.returns-in-Some
returns-in-Some c =
    let left = c.in-Some.ensures.some in
    rw c.is_nothing.ensures (last_hint (live_clause c.args.live.now) c.args.set.now.members c.args.hint left.clause c.in-Some.left left.is left.leaves)
