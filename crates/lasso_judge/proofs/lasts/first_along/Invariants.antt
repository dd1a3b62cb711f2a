use Rattle.std.proofs.Common.{◌-◌, length}
use Rattle.sere_nfa.specs.Views.{edges_of}
use Rattle.lasso_judge.specs.Cells.{NoneGoes}
use Rattle.lasso_tables.specs.Seen.{seen_at}
use Rattle.lasso_judge.proofs.lasts.first_along.Given as goal

abbrev pub invariant-loop-number : goal.invariant-loop-number
invariant-loop-number l = NoneGoes l.charted.chart.now.nfa.states (seen_at l.charted.word.now l.charted.flipped l.place) l.marks l.first (edges_of l.edges) l.number

abbrev pub decreases-loop-number : goal.decreases-loop-number
decreases-loop-number l = length l.edges - l.number
