use Rattle.std.proofs.Common.{◌≡◌, drop}
use Rattle.sere_nfa.specs.Views.{edges_of}
use Rattle.lasso_judge.specs.Cells.{ends_on}
use Rattle.lasso_tables.specs.Seen.{seen_at}
use Rattle.lasso_judge.proofs.hits.ends_by.Given as goal

abbrev pub invariant-loop-edge : goal.invariant-loop-edge
invariant-loop-edge l = ends_on l.charted.chart.now.nfa.states (seen_at l.charted.word.now l.charted.flipped l.place) (edges_of (drop l.edge-index l.edges)) ≡ ends_on l.charted.chart.now.nfa.states (seen_at l.charted.word.now l.charted.flipped l.place) (edges_of l.edges)
