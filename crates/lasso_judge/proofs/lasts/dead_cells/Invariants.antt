use Rattle.lasso_judge.specs.Cells.{AreDead}
use Rattle.lasso_judge.proofs.lasts.dead_cells.Given as goal

abbrev pub invariant-loop-cell : goal.invariant-loop-cell
invariant-loop-cell l = AreDead l.chart.nfa.states l.cell l.marks.items
