use Rattle.sere_nfa.proofs.Reach.{work}
use Rattle.lasso_judge.specs.MarkingView.{marking_of}
use Rattle.lasso_judge.proofs.Hitting.{IsHitSearch}
use Rattle.lasso_judge.proofs.hits.hit_cells.Given as goal

abbrev pub invariant-loop-cell : goal.invariant-loop-cell
invariant-loop-cell l = IsHitSearch l.charted.word.now l.charted.flipped l.charted.next.now l.charted.chart.now.nfa.states l.charted.chart.now.arrows.items l.hits (marking_of l.marking)

abbrev pub decreases-loop-cell : goal.decreases-loop-cell
decreases-loop-cell l = work (marking_of l.marking)
