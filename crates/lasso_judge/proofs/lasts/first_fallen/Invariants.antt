use Rattle.std.proofs.Common.{◌≡◌, ◌-◌, length}
use Rattle.lasso_judge.specs.MarkingView.{marking_of}
use Rattle.lasso_judge.specs.Cells.{counted_from, fall_all, ArePassed}
use Rattle.lasso_tables.specs.Seen.{seen_at}
use Rattle.lasso_judge.proofs.lasts.first_fallen.Given as goal

abbrev pub invariant-loop-cell : goal.invariant-loop-cell
invariant-loop-cell l = record {
  same : fall_all l.charted.chart.now.nfa.states (λ place. seen_at l.charted.word.now l.charted.flipped place) l.charted.next.now (marking_of l.marking) (counted_from l.cell (l.charted.chart.now.cells - l.cell))
      ≡ fall_all l.charted.chart.now.nfa.states (λ place. seen_at l.charted.word.now l.charted.flipped place) l.charted.next.now (marking_of l.initial.marking) (counted_from 0 l.charted.chart.now.cells);
  len : length l.marking.marks.items ≡ l.charted.chart.now.cells;
  passed : ArePassed l.charted.chart.now.nfa.states (λ place. seen_at l.charted.word.now l.charted.flipped place) l.charted.next.now l.charted.chart.now.cells l.marking.marks.items l.passed.items;
}
