use Rattle.std.proofs.Common.{◌≡◌}
use Rattle.lasso_judge.specs.Arrows.{arrows_below}
use Rattle.lasso_judge.proofs.chart.arrows_of.Given as goal

abbrev pub invariant-loop-state : goal.invariant-loop-state
invariant-loop-state l = l.arrows.items ≡ arrows_below l.nfa.states l.state
