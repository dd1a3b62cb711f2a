use Rattle.std.proofs.Common.{◌∙◌}
use Rattle.lasso_judge.specs.MarkingView.{marking_of}
use Rattle.lasso_tables.specs.Seen.{seen_at}
use Rattle.lasso_judge.proofs.Visiting.{fallen-more}
use Rattle.lasso_judge.proofs.lasts.first_fallen.Goals as goal

pub loop-cell-preserved : goal.loop-cell-preserved
loop-cell-preserved c = record {
  same = fallen-more c.args.charted.chart.now.nfa.states (λ place. seen_at c.args.charted.word.now c.args.charted.flipped place) c.args.charted.next.now c.loop-cell.cell c.args.charted.chart.now.cells
      (marking_of c.loop-cell.marking) (marking_of c.fall_one.new.marking) _ c.loop-cell-test.true c.loop-cell.invariant.same c.in_ok-fall_one.ensures.marking;
  len = c.in_ok-fall_one.ensures.len ∙ c.loop-cell.invariant.len;
  passed = c.in_ok-fall_one.ensures.passed;
}
