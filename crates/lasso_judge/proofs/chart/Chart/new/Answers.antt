use Rattle.lasso_tables.specs.Seen.{seen_at}
use Rattle.lasso_judge.proofs.Labelled.{told-of}
use Rattle.lasso_judge.proofs.chart.Chart.new.Goals as goal

pub returns-clause-chart : goal.returns-clause-chart
returns-clause-chart c =
    let chart = c.in_ok-chart.ensures.chart in
    record {
      drawn = record {
        sound = chart.drawn.sound;
        some = chart.drawn.some;
        arrows = chart.drawn.arrows;
        real = chart.drawn.real;
        into_length = chart.drawn.into_length;
        into = chart.drawn.into;
        cells = chart.drawn.cells;
        few = chart.drawn.few;
        few_states = chart.drawn.few_states;
      };
      before_length = chart.before_length;
      before = chart.before;
    }

pub returns-clause-labels : goal.returns-clause-labels
returns-clause-labels c = record {
  values_length = c.in_ok-values.ensures.same_length;
  told = told-of (λ place. seen_at c.args.word.now c.args.flipped place) c.in_ok-chart.chart c.in_ok-values.values.items c.in_ok-chart.ensures.chart.drawn c.in_ok-values.ensures;
  sources = record { same_length = c.in_ok-sources.ensures.same_length; each = c.in_ok-sources.ensures.each };
}
