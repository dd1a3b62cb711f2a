use Rattle.clause_store.proofs.Gaps.{IsMoved}
use Rattle.clause_store.proofs.region.close_gaps.Given as goal

abbrev pub invariant-loop-place : goal.invariant-loop-place
invariant-loop-place l = IsMoved l.initial.words l.initial.ends l.words l.ends l.place l.begin l.end
