use Rattle.std.proofs.Common.{sym, subst, ◌+◌, Bool as Truth, Option, List}
use Rattle.lasso_judge.specs.Labels.{AreKnown}
use Rattle.lasso_tables.specs.Seen.{seen_at}
use Rattle.lasso_judge.proofs.Labelled.{known_push}
use Rattle.lasso_judge.proofs.labels.values_of.Goals as goal

pub loop-cell-preserved : goal.loop-cell-preserved
loop-cell-preserved c =
    subst (λ (values : List (Option Truth)). AreKnown (λ place. seen_at c.args.word.now c.args.flipped place) c.args.chart.now (c.loop-cell.cell + 1) values) (sym c.in_ok-push.ensures.items)
    (known_push (λ place. seen_at c.args.word.now c.args.flipped place) c.args.chart.now c.loop-cell.cell c.loop-cell.values.items c.value_of-value.result c.loop-cell.invariant c.value_of-value.ensures)
