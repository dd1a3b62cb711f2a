use Rattle.std.proofs.Common.{◌<◌, ◌+◌, length, ap, ◌∙◌, arith}
use Rattle.psl_base.proofs.Columns.{place_feed, place_inline, column_within}
use Rattle.psl_base.proofs.place.advance.Goals as goal
use Rattle.psl_base.proofs.place.advance.Goals.{then-text-at-eq10, else-text-at-eq10}

pub overflow_add-place-else-text-at-eq10 : goal.overflow_add-place-else-text-at-eq10
overflow_add-place-else-text-at-eq10 c =
    let most = column_within c.args.text.now c.loop-at.at in
    let same = ap (λ place. place.column) c.loop-at.invariant in
    omega (arith, most, same)

pub loop-at-preserved : goal.loop-at-preserved
loop-at-preserved c =
    let within : c.loop-at.at < length c.args.text.now = omega arith in
    elim c.if-text-at-eq10.branch [
      | then-text-at-eq10 w ↦ w.place-is ∙ ap (λ place. record { line = place.line + 1; column = 1 }) c.loop-at.invariant ∙ place_feed c.args.text.now c.loop-at.at within w.if-text-at-eq10.true
      | else-text-at-eq10 w ↦ w.place-is ∙ ap (λ place. record { line = place.line; column = place.column + 1 }) c.loop-at.invariant ∙ place_inline c.args.text.now c.loop-at.at within w.if-text-at-eq10.false
    ]
