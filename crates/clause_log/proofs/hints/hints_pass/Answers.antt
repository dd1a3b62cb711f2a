use Rattle.std.proofs.Common.{◌≡◌, [], sym, ap, ◌∙◌, length, eqb}
use Rattle.std.proofs.lemmas.Bool.{false≢true}
use Rattle.clause_log.specs.LiveClauses.{live_clause}
use Rattle.clause_log.proofs.Propagating.{hint_step}
use Rattle.clause_log.proofs.hints.hints_pass.Goals as goal

pub returns-then-not-branch-clause-passes : goal.returns-then-not-branch-clause-passes
returns-then-not-branch-clause-passes c =
    let live = live_clause c.args.live.now in
    let old = c.loop-hint.set.members in
    let new = c.propagate.new.set.members in
    let some : (c.in-Some.others.now ≡ []) → ⊥ = λ none. false≢true (c.if-is_empty.ensures ∙ ap (λ xs. eqb (length xs) 0) none) in
    let step = hint_step live old new c.loop-hint.rest.now c.in-Some.hint.now c.in-Some.others.now c.in_ok-propagate.field-0 c.in-Some.ensures.cases.0 some c.in_ok-propagate.ensures.passes in
    let kept = c.loop-hint.invariant.passes in (
      λ no. absurd (false≢true no),
      λ passes. absurd (false≢true (sym c.if-not-branch.true ∙ (step.0 (kept.0 passes)).0)),
    )

pub loop-hint-preserved : goal.loop-hint-preserved
loop-hint-preserved c =
    let live = live_clause c.args.live.now in
    let old = c.loop-hint.set.members in
    let new = c.propagate.new.set.members in
    let some : (c.in-Some.others.now ≡ []) → ⊥ = λ none. false≢true (c.if-is_empty.ensures ∙ ap (λ xs. eqb (length xs) 0) none) in
    let step = hint_step live old new c.loop-hint.rest.now c.in-Some.hint.now c.in-Some.others.now c.in_ok-propagate.field-0 c.in-Some.ensures.cases.0 some c.in_ok-propagate.ensures.passes in
    let kept = c.loop-hint.invariant.passes in
    record {
      variables = c.in_ok-propagate.ensures.variables ∙ c.loop-hint.invariant.variables;
      passes = (λ passes. (step.0 (kept.0 passes)).1, λ passes. kept.1 (step.1 (c.if-not-branch.false, passes)));
    }
