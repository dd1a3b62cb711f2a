use Rattle.std.proofs.Common.{◌∙◌, ap, sym, ℕ, ◌*◌, List, map, length, arith}
use Rattle.lasso_judge.specs.declared.chart.Arrow.{Arrow}
use Rattle.lasso_judge.specs.Arrows.{places_from}
use Rattle.lasso_judge.proofs.Drawn.{arrows-real, targets-below}
use Rattle.lasso_judge.proofs.chart.Chart.drawn.Goals as goal

pub arrows_of-requires : goal.arrows_of-requires
arrows_of-requires c = omega (arith, c.in_ok-nfa.ensures.size, c.requires.small)

pub places_of_each-requires : goal.places_of_each-requires
places_of_each-requires c = λ p l.
    let below = targets-below c.in_ok-nfa.nfa.initial c.in_ok-nfa.nfa.states c.in_ok-arrows.arrows.items c.deref-2.result.now c.in_ok-nfa.ensures.sound c.in_ok-arrows.ensures
    (c.deref-2.ensures.value ∙ (c.in_ok-targets.ensures ∙ ap (λ (rs : List Arrow). map (λ (a : Arrow). a.target) rs) c.deref.ensures.value)) p l in
    omega (arith, below, c.len.ensures)

pub returns-clause-chart : goal.returns-clause-chart
returns-clause-chart c = record {
  drawn = record {
    sound = c.in_ok-nfa.ensures.sound;
    some = c.in_ok-nfa.ensures.some;
    arrows = c.in_ok-arrows.ensures;
    real = arrows-real c.in_ok-nfa.nfa.states c.in_ok-arrows.arrows.items c.in_ok-arrows.ensures;
    into_length = c.in_ok-into.ensures.len ∙ c.len.ensures;
    into = λ t l. c.in_ok-into.ensures.each t (omega (arith, l, c.len.ensures))
        ∙ ap (λ (ts : List ℕ). places_from 0 t ts) (c.deref-2.ensures.value ∙ (c.in_ok-targets.ensures ∙ ap (λ (rs : List Arrow). map (λ (a : Arrow). a.target) rs) c.deref.ensures.value));
    cells = c.in_ok-cells.ensures.count ∙ (ap (λ n. n * c.len-2.result) (sym c.in_ok-before.ensures.len) ∙ ap (λ n. length c.in_ok-before.before.items * n) c.len-2.ensures);
    few = c.in_ok-cells.ensures.few;
    few_states = omega (arith, c.in_ok-nfa.ensures.size, c.requires.small);
  };
  before_length = c.in_ok-before.ensures.len;
  before = c.in_ok-before.ensures.each;
}
