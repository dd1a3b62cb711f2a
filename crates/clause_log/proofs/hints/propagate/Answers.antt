use Rattle.std.proofs.Common.{sym, ◌∙◌}
use Rattle.std.proofs.lemmas.Bool.{false≢true}
use Rattle.clause_log.specs.LiveClauses.{live_clause}
use Rattle.clause_log.proofs.Propagating.{no_hint}
use Rattle.clause_log.proofs.hints.propagate.Goals as goal

pub returns-in_default-only-clause-passes : goal.returns-in_default-only-clause-passes
returns-in_default-only-clause-passes c = λ next hints.
    let left = c.in-Some.ensures.some in (
      λ passes. absurd (no_hint (live_clause c.args.live.now) c.args.set.now.members c.args.hint left.clause c.in-Some.left next hints left.is (sym c.only.ensures ∙ c.in_default-only.is) left.leaves passes),
      λ both. absurd (false≢true both.0),
    )
