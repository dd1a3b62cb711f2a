use Rattle.std.proofs.Common.{◌≡◌, ◌++◌, drop}
use Rattle.lasso_judge.specs.Cells.{fresh_at}
use Rattle.lasso_tables.specs.Seen.{seen_at}
use Rattle.lasso_judge.proofs.before.add_at.Given as goal

abbrev pub invariant-loop-number : goal.invariant-loop-number
invariant-loop-number l =
    l.found.items ++ fresh_at l.charted.chart.now.nfa.states (λ place. seen_at l.charted.word.now l.charted.flipped place) l.charted.chart.now.arrows.items l.marks l.place (drop l.number-index l.arrows)
    ≡ l.initial.found.items ++ fresh_at l.charted.chart.now.nfa.states (λ place. seen_at l.charted.word.now l.charted.flipped place) l.charted.chart.now.arrows.items l.marks l.place l.arrows
