use Rattle.std.proofs.Common.{◌+◌, ◌∙◌, ap, sym, arith}
use Rattle.joint.proofs.Readings.{count-with, count-without}
use Rattle.joint.proofs.bits.read_count.Goals.{then-values-start, else-values-start}
use Rattle.joint.proofs.bits.read_count.Goals as goal

pub loop-number-preserved : goal.loop-number-preserved
loop-number-preserved c = elim c.if-values-start.branch [
  | then-values-start w ↦ record {
    is = w.found-is ∙ ap (λ n. n + 1) c.loop-number.invariant.is ∙ sym (count-with c.args.values.now c.args.start c.loop-number.number w.if-values-start.true);
    few = omega arith;
  }
  | else-values-start w ↦ record {
    is = w.found-is ∙ c.loop-number.invariant.is ∙ sym (count-without c.args.values.now c.args.start c.loop-number.number w.if-values-start.false);
    few = omega arith;
  }
]
