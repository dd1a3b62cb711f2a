use Rattle.std.proofs.Common.{◌≡◌, ◌<◌, ◌∙◌, Bool, List, length, ap, arith}
use Rattle.std.proofs.lemmas.List.{length_push}
use Rattle.std.proofs.lemmas.List.Elements.{All-push}
use Rattle.prover_bmc.proofs.choices.all_values_of.Goals as goal

pub loop-frame-preserved : goal.loop-frame-preserved
loop-frame-preserved c =
    let frames = c.args.frames.now in
    let i = c.loop-frame.frame-index in
    let bits = c.in_ok-values_of.field-0 in
    let lt : i < length frames = omega arith in
    rw c.in_ok-push.ensures.ok (record {
      size = omega (arith, c.loop-frame.invariant.size, length_push c.loop-frame.all bits);
      each = λ count of. All-push (λ (other : List Bool). length other ≡ count) c.loop-frame.all bits (c.loop-frame.invariant.each count of)
          (c.in_ok-values_of.ensures ∙ ap length c.as_slice.ensures ∙ ap length c.frame-item.is ∙ of i c.frame-item.result lt);
    })
