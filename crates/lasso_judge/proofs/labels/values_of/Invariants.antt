use Rattle.lasso_judge.specs.Labels.{AreKnown}
use Rattle.lasso_tables.specs.Seen.{seen_at}
use Rattle.lasso_judge.proofs.labels.values_of.Given as goal

abbrev pub invariant-loop-cell : goal.invariant-loop-cell
invariant-loop-cell l = AreKnown (λ place. seen_at l.word l.flipped place) l.chart l.cell l.values.items
