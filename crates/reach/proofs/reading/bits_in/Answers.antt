use Rattle.reach.proofs.Loops.{bits-next}
use Rattle.reach.proofs.reading.bits_in.Goals as goal

pub loop-number-preserved : goal.loop-number-preserved
loop-number-preserved c =
    bits-next c.args.values.now c.args.start c.loop-number.number c.value_at.result c.loop-number.bits c.push.new.self
    c.value_at.ensures c.loop-number.invariant c.in_ok-push.ensures.ok
