use Rattle.lasso_judge.proofs.Merging.{AreSame}
use Rattle.lasso_judge.proofs.merged.same_edges.Given as goal

abbrev pub invariant-loop-number : goal.invariant-loop-number
invariant-loop-number l = AreSame l.left l.right l.number
