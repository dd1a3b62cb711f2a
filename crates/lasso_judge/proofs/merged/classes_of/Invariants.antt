use Rattle.lasso_judge.specs.Merging.{AreClasses}
use Rattle.lasso_judge.proofs.merged.classes_of.Given as goal

abbrev pub invariant-loop-state : goal.invariant-loop-state
invariant-loop-state l = AreClasses l.nfa.states l.state l.classes.items
