use Rattle.std.proofs.Common.{◌≡◌, ◌++◌, drop}
use Rattle.lasso_judge.specs.Cells.{fresh_back}
use Rattle.lasso_judge.specs.Labels.{into_at}
use Rattle.lasso_tables.specs.Seen.{seen_at}
use Rattle.lasso_judge.proofs.before.add_back.Given as goal

abbrev pub invariant-loop-place : goal.invariant-loop-place
invariant-loop-place l =
    l.found.items ++ fresh_back l.charted.chart.now.nfa.states (λ place. seen_at l.charted.word.now l.charted.flipped place) l.charted.chart.now.arrows.items l.marks (drop l.place-index l.places) (into_at l.charted.chart.now l.target)
    ≡ l.initial.found.items ++ fresh_back l.charted.chart.now.nfa.states (λ place. seen_at l.charted.word.now l.charted.flipped place) l.charted.chart.now.arrows.items l.marks l.places (into_at l.charted.chart.now l.target)
