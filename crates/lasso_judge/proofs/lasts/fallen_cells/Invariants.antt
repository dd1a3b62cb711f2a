use Rattle.std.proofs.Common.{[]}
use Rattle.sere_nfa.proofs.Reach.{work}
use Rattle.lasso_judge.specs.MarkingView.{marking_of}
use Rattle.lasso_judge.specs.Cells.{ArePassed}
use Rattle.lasso_tables.specs.Seen.{seen_at}
use Rattle.lasso_judge.proofs.Lasting.{IsFallSearch}
use Rattle.lasso_judge.proofs.lasts.fallen_cells.Given as goal

abbrev pub invariant-loop-cell : goal.invariant-loop-cell
invariant-loop-cell l = record {
  search : IsFallSearch l.charted.word.now l.charted.flipped l.charted.next.now l.charted.chart.now.nfa.states [] (marking_of l.marking);
  passed : ArePassed l.charted.chart.now.nfa.states (λ place. seen_at l.charted.word.now l.charted.flipped place) l.charted.next.now l.charted.chart.now.cells l.marking.marks.items l.passed.items;
}

abbrev pub decreases-loop-cell : goal.decreases-loop-cell
decreases-loop-cell l = work (marking_of l.marking)
