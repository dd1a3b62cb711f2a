use Rattle.std.proofs.Common.{◌≡◌, [], false, length, replicate}
use Rattle.sere_nfa.specs.Marking.{visit_all}
use Rattle.lasso_judge.specs.MarkingView.{marking_of}
use Rattle.lasso_judge.specs.Cells.{ends_at, numbers_below}
use Rattle.lasso_tables.specs.Seen.{seen_at}
use Rattle.lasso_judge.proofs.hits.ended.Given as goal

abbrev pub invariant-loop-cell : goal.invariant-loop-cell
invariant-loop-cell l = record {
  same : marking_of l.marking ≡ visit_all (record { marks = replicate l.charted.chart.now.cells false; waiting = [] })
      (numbers_below (λ cell. ends_at l.charted.chart.now.nfa.states (λ place. seen_at l.charted.word.now l.charted.flipped place) l.hits cell) l.cell);
  len : length l.marking.marks.items ≡ l.charted.chart.now.cells;
}
