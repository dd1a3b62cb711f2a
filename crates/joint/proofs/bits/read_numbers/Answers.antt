use Rattle.std.proofs.Common.{◌∙◌, ◌++◌, [], ◌∷◌, ap, sym}
use Rattle.joint.proofs.Readings.{numbers-with, numbers-without}
use Rattle.joint.proofs.bits.read_numbers.Goals.{then-values-start+in_ok-push, else-values-start}
use Rattle.joint.proofs.bits.read_numbers.Goals as goal

pub loop-number-preserved : goal.loop-number-preserved
loop-number-preserved c = elim c.if-values-start.branch [
  | then-values-start+in_ok-push w ↦
      w.numbers-is ∙ w.in_ok-push.ensures.ok ∙ ap (λ front. front ++ c.loop-number.number ∷ []) c.loop-number.invariant
      ∙ sym (numbers-with c.args.values.now c.args.start c.loop-number.number w.if-values-start.true)
  | else-values-start w ↦
      w.numbers-is ∙ c.loop-number.invariant ∙ sym (numbers-without c.args.values.now c.args.start c.loop-number.number w.if-values-start.false)
]
