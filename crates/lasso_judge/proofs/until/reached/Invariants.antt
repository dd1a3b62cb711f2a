use Rattle.std.specs.Prelude.{◌+◌, if◌then◌else◌}
use Rattle.lasso_judge.specs.Untils.{Grown, unset}
use Rattle.lasso_judge.proofs.until.reached.Given as goal

abbrev pub invariant-loop-more : goal.invariant-loop-more
invariant-loop-more l = Grown 0 l.left l.next l.fn.right.items l.reached.items l.more

abbrev pub decreases-loop-more : goal.decreases-loop-more
decreases-loop-more l = unset l.reached.items + (if l.more then 1 else 0)
