use Rattle.std.proofs.Common.{◌∙◌, [], false, replicate}
use Rattle.lasso_judge.specs.Cells.{ends_at}
use Rattle.lasso_tables.specs.Seen.{seen_at}
use Rattle.lasso_judge.proofs.Visiting.{visited-more}
use Rattle.lasso_judge.specs.MarkingView.{marking_of}
use Rattle.lasso_judge.proofs.hits.ended.Goals as goal

pub loop-cell-preserved : goal.loop-cell-preserved
loop-cell-preserved c = record {
  same = visited-more (record { marks = replicate c.args.charted.chart.now.cells false; waiting = [] }) (marking_of c.loop-cell.marking) (marking_of c.visit_where.new.marking)
      (λ cell. ends_at c.args.charted.chart.now.nfa.states (λ place. seen_at c.args.charted.word.now c.args.charted.flipped place) c.args.hits.now cell) c.loop-cell.cell c.ends_here-ends.result
      c.loop-cell.invariant.same c.ends_here-ends.ensures c.in_ok-visit_where.ensures.marking;
  len = c.in_ok-visit_where.ensures.len ∙ c.loop-cell.invariant.len;
}
