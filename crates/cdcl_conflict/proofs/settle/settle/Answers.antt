use Rattle.std.proofs.Common.{◌≤◌, inl, inr, sym, ◌∙◌}
use Rattle.std.proofs.lemmas.Bool.{cases_lt, true≢false}
use Rattle.cdcl_conflict.specs.Views.{steps_of}
use Rattle.cdcl_conflict.proofs.Settling.{settled_kept, settled_explained, settled_already}
use Rattle.cdcl_conflict.proofs.settle.settle.Goals as goal

pub returns-else-is_redundant : goal.returns-else-is_redundant
returns-else-is_redundant c =
    let steps = steps_of c.args.trail.now in
    let above : steps.fixed ≤ c.args.place =
    elim (cases_lt c.args.place steps.fixed) [
      | inl below ↦ absurd (true≢false (sym (c.is_redundant.ensures.fixed below) ∙ c.if-is_redundant.false))
      | inr above ↦ above
    ] in
    settled_kept c.args.clauses.now steps c.args.place c.args.standings.now c.args.reached.now.items c.requires.listed c.in-Waiting.is above

pub returns-in_ok-explain : goal.returns-in_ok-explain
returns-in_ok-explain c =
    settled_explained c.args.clauses.now (steps_of c.args.trail.now) c.args.place c.in_ok-explain.field-0 c.args.standings.now c.args.reached.now.items
    c.explain.new.standings c.explain.new.reached.items c.in-Waiting.is c.in_ok-explain.ensures

pub returns-in_default : goal.returns-in_default
returns-in_default c =
    settled_already c.args.clauses.now (steps_of c.args.trail.now) c.args.place c.args.standings.now c.args.reached.now.items c.requires.listed c.in_default.not-Waiting
