use Rattle.std.proofs.Common.{◌/◌, ◌%◌, subst}
use Rattle.lasso_judge.specs.Labels.{IsKnown}
use Rattle.lasso_tables.specs.Seen.{seen_at}
use Rattle.lasso_judge.proofs.labels.value_of.Goals as goal

pub returns : goal.returns
returns c = subst (λ s. IsKnown (λ place. seen_at c.args.word.now c.args.flipped place) c.args.chart.now (c.args.cell / s) (c.args.cell % s) c.value_in.result) c.len-states.ensures c.value_in.ensures
