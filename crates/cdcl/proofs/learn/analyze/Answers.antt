use Rattle.std.proofs.Common.{ℕ, ap, ◌∙◌, subst}
use Rattle.std.proofs.lemmas.Result.{on_ok_weaker}
use Rattle.clauses.specs.Live.{Numbered}
use Rattle.cdcl_trail.specs.Path.{Path}
use Rattle.cdcl_conflict_theory.specs.Trails.{Steps, HasEnded}
use Rattle.cdcl_conflict_theory.specs.Lemmas.{IsLearned}
use Rattle.cdcl.specs.Turns.{steps_at}
use Rattle.cdcl.proofs.Trails.{trail_of, ended_of, conflict_of, steps_same}
use Rattle.cdcl.proofs.learn.analyze.Goals as goal

pub analyze-requires-clause-trail : goal.analyze-requires-clause-trail
analyze-requires-clause-trail c =
    let state = c.args.propagator.now in
    let path = c.trail-trail.ensures.is in
    let same = steps_same state.path c.literals-literals.result.now c.reasons.result.now c.limits-limits.result.now c.begin_of.result c.saturating_sub.result c.begin_of-2.result
    (c.literals-literals.ensures.is ∙ ap (λ (p : Path). p.literals) path) (c.reasons.ensures ∙ ap (λ (p : Path). p.reasons) path) (c.limits-limits.ensures.is ∙ ap (λ (p : Path). p.limits) path)
    c.begin_of.ensures c.saturating_sub.ensures c.begin_of-2.ensures in
    rw (same, c.clauses.ensures) (trail_of state c.trail-trail.ensures.settled)

pub analyze-requires-clause-conflict : goal.analyze-requires-clause-conflict
analyze-requires-clause-conflict c =
    let state = c.args.propagator.now in
    let path = c.trail-trail.ensures.is in
    let same = steps_same state.path c.literals-literals.result.now c.reasons.result.now c.limits-limits.result.now c.begin_of.result c.saturating_sub.result c.begin_of-2.result
    (c.literals-literals.ensures.is ∙ ap (λ (p : Path). p.literals) path) (c.reasons.ensures ∙ ap (λ (p : Path). p.reasons) path) (c.limits-limits.ensures.is ∙ ap (λ (p : Path). p.limits) path)
    c.begin_of.ensures c.saturating_sub.ensures c.begin_of-2.ensures in
    rw (same, c.clauses.ensures) (conflict_of state c.args.conflict c.requires.conflict)

pub returns-clause-learned : goal.returns-clause-learned
returns-clause-learned c =
    let state = c.args.propagator.now in
    let path = c.trail-trail.ensures.is in
    let same = steps_same state.path c.literals-literals.result.now c.reasons.result.now c.limits-limits.result.now c.begin_of.result c.saturating_sub.result c.begin_of-2.result
    (c.literals-literals.ensures.is ∙ ap (λ (p : Path). p.literals) path) (c.reasons.ensures ∙ ap (λ (p : Path). p.reasons) path) (c.limits-limits.ensures.is ∙ ap (λ (p : Path). p.limits) path)
    c.begin_of.ensures c.saturating_sub.ensures c.begin_of-2.ensures in
    let P : Steps → Type 0 = λ steps. HasEnded c.clauses.result.now steps → IsLearned c.clauses.result.now steps c.analyze.new.lemma.literals.items c.analyze.new.lemma.hints.items in
    let Q : Numbered ℕ → Type 0 = λ clauses. HasEnded clauses (steps_at state.path) → IsLearned clauses (steps_at state.path) c.analyze.new.lemma.literals.items c.analyze.new.lemma.hints.items in
    on_ok_weaker c.analyze.result
    (λ (give : P (record { literals = c.literals-literals.result.now; reasons = c.reasons.result.now; fixed = c.begin_of.result; start = c.begin_of-2.result })) some.
    subst Q c.clauses.ensures (subst P same give) (ended_of state c.trail-trail.ensures.settled some))
    c.analyze.ensures.learned
