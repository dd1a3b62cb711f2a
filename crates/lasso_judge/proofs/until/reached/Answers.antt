use Rattle.std.proofs.Common.{Bool as Truth, subst}
use Rattle.lasso_judge.specs.Untils.{Grown}
use Rattle.lasso_judge.proofs.Untils.{grown-more, reached-ends}
use Rattle.lasso_judge.proofs.until.reached.Goals as goal

pub loop-more-preserved : goal.loop-more-preserved
loop-more-preserved c =
    grown-more c.args.left.now c.args.next.now c.args.right.items c.loop-more.reached.items c.sweep-more.new.reached.items c.loop-more.more c.sweep-more.result
    c.loop-more.invariant c.sweep-more.ensures

pub returns : goal.returns
returns c = reached-ends c.args.left.now c.args.next.now c.args.right.items c.loop-more.reached.items c.requires.same_right c.requires.within
    (subst (λ (t : Truth). Grown 0 c.args.left.now c.args.next.now c.args.right.items c.loop-more.reached.items t) c.loop-more-test.false c.loop-more.invariant)
