use Rattle.std.proofs.Common.{◌≡◌}
use Rattle.lasso_judge.specs.Merging.{merged_below}
use Rattle.lasso_judge.specs.MergedView.{states_shown}
use Rattle.lasso_judge.proofs.merged.states_of.Given as goal

abbrev pub invariant-loop-state : goal.invariant-loop-state
invariant-loop-state l = states_shown l.states.items ≡ merged_below l.classes l.nfa.states l.state
