use Rattle.std.proofs.Common.{arith}
use Rattle.lasso_judge.proofs.Untils.{grow-then, grow-else}
use Rattle.lasso_judge.proofs.until.sweep.Goals as goal

pub loop-place-preserved-then-grow : goal.loop-place-preserved-then-grow
loop-place-preserved-then-grow c =
    grow-then c.args.left.now c.args.next.now c.loop-place.place c.args.reached.now.items c.loop-place.reached.items c.grow.new.reached.items c.loop-place.more c.grow.result
    c.requires.same_reached (omega arith) (omega arith) c.loop-place.invariant c.grow.ensures.grown c.grow.ensures.reached c.if-grow.true

pub loop-place-preserved : goal.loop-place-preserved
loop-place-preserved c =
    grow-else c.args.left.now c.args.next.now c.loop-place.place c.args.reached.now.items c.loop-place.reached.items c.grow.new.reached.items c.loop-place.more c.grow.result
    c.requires.same_reached (omega arith) (omega arith) c.loop-place.invariant c.grow.ensures.grown c.grow.ensures.reached c.if-grow.false
