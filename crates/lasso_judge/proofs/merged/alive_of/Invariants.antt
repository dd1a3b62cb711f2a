use Rattle.lasso_judge.specs.Merging.{MergedAlive}
use Rattle.lasso_judge.proofs.merged.alive_of.Given as goal

abbrev pub invariant-loop-state : goal.invariant-loop-state
invariant-loop-state l = MergedAlive l.nfa.states l.classes l.state l.marks.items
