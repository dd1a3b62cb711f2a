use Rattle.std.proofs.Common.{◌≡◌, length, drop}
use Rattle.lasso_judge.specs.MarkingView.{marking_of}
use Rattle.lasso_judge.specs.Cells.{fall_all, ArePassed}
use Rattle.lasso_tables.specs.Seen.{seen_at}
use Rattle.lasso_judge.proofs.lasts.fall_each.Given as goal

abbrev pub invariant-loop-cell : goal.invariant-loop-cell
invariant-loop-cell l = record {
  same : fall_all l.charted.chart.now.nfa.states (λ place. seen_at l.charted.word.now l.charted.flipped place) l.charted.next.now (marking_of l.marking) (drop l.cell-index l.cells)
      ≡ fall_all l.charted.chart.now.nfa.states (λ place. seen_at l.charted.word.now l.charted.flipped place) l.charted.next.now (marking_of l.initial.marking) l.cells;
  len : length l.marking.marks.items ≡ length l.initial.marking.marks.items;
  passed : ArePassed l.charted.chart.now.nfa.states (λ place. seen_at l.charted.word.now l.charted.flipped place) l.charted.next.now l.charted.chart.now.cells l.marking.marks.items l.passed.items;
}
