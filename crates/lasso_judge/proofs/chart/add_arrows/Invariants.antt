use Rattle.std.proofs.Common.{◌≡◌, ◌++◌, drop}
use Rattle.sere_nfa.specs.Views.{edges_of}
use Rattle.lasso_judge.specs.Arrows.{arrows_in}
use Rattle.lasso_judge.proofs.chart.add_arrows.Given as goal

abbrev pub invariant-loop-number : goal.invariant-loop-number
invariant-loop-number l = l.arrows.items ++ arrows_in l.state l.number (edges_of (drop l.number l.edges)) ≡ l.initial.arrows.items ++ arrows_in l.state 0 (edges_of l.edges)
