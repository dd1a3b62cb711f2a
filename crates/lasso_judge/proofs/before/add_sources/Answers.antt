use Rattle.std.proofs.Common.{◌≡◌, sym, subst, ℕ, ◌<◌, List, length, All}
use Rattle.lasso_judge.specs.Labels.{into_at, left_by}
use Rattle.lasso_judge.proofs.Drawn.{gathered}
use Rattle.lasso_judge.proofs.Labelled.{sources-below}
use Rattle.lasso_judge.proofs.before.add_sources.Goals as goal

pub add_unmarked-requires-clause-states : goal.add_unmarked-requires-clause-states
add_unmarked-requires-clause-states c =
    let shown : c.as_slice-sources.result.now ≡ left_by c.args.chart.now.arrows.items (into_at c.args.chart.now c.args.target) =
    gathered c.args.chart.now.sources.items (length c.args.chart.now.nfa.states) c.args.target c.index.result.now c.as_slice-sources.result.now (left_by c.args.chart.now.arrows.items (into_at c.args.chart.now c.args.target))
    c.requires.sources.same_length c.requires.target c.as_slice-sources.ensures c.index.ensures (c.requires.sources.each c.args.target c.requires.target) in
    subst (λ (qs : List ℕ). All (λ q. q < length c.args.chart.now.nfa.states) qs) (sym shown) (sources-below c.args.chart.now c.requires.chart c.args.target c.requires.target)
