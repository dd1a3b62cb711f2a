use Rattle.lasso_judge.specs.Untils.{GrowsTo}
use Rattle.lasso_judge.proofs.until.sweep.Given as goal

abbrev pub invariant-loop-place : goal.invariant-loop-place
invariant-loop-place l = GrowsTo l.place l.left l.next l.initial.reached.items l.reached.items l.more
