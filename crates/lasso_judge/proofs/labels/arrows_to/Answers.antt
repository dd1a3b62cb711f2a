use Rattle.std.proofs.Common.{◌≡◌, refl, sym, subst, ℕ, ◌<◌, List, length, All}
use Rattle.lasso_judge.specs.Labels.{into_at}
use Rattle.lasso_judge.proofs.Drawn.{gathered}
use Rattle.lasso_judge.proofs.Labelled.{into-below}
use Rattle.lasso_judge.proofs.labels.arrows_to.Goals as goal

shown : (c : goal.After-as_slice) → c.as_slice.result.now ≡ into_at c.args.chart.now c.args.state
shown c = gathered c.args.chart.now.into.items (length c.args.chart.now.nfa.states) c.args.state c.index-found.result.now c.as_slice.result.now (into_at c.args.chart.now c.args.state)
    c.requires.drawn.into_length c.requires.state c.as_slice.ensures c.index-found.ensures refl

pub returns-clause-shown : goal.returns-clause-shown
returns-clause-shown c = shown c

pub returns-clause-below : goal.returns-clause-below
returns-clause-below c = subst (λ (ns : List ℕ). All (λ n. n < length c.args.chart.now.arrows.items) ns) (sym (shown c)) (into-below c.args.chart.now c.requires.drawn c.args.state c.requires.state)
