-- What a lemma says once the trail has gone back to a lower level.
use Rattle.std.proofs.Common.{◌≡◌, ◌⊎◌, ℕ, ◌<◌, ◌≤◌, List, ◌∷◌, take, inl, inr, sym, ap, ◌∙◌, subst, arith}
use Rattle.std.specs.List.{All, Contains}
use Rattle.std.proofs.lemmas.List.Elements.{All-contains}
use Rattle.clauses.specs.Live.{Numbered}
use Rattle.cdcl_trail.specs.Literals.{opposite}
use Rattle.cdcl_conflict_theory.specs.Trails.{Steps, IsTrail, size_of, literal_at}
use Rattle.cdcl_conflict_theory.specs.Closing.{negation_at, lemma_of}
use Rattle.cdcl_conflict_theory.specs.Lemmas.{IsAsserting, IsUnit}
use Rattle.cdcl_conflict_theory.proofs.Literals.{opposite-opposite, clash, one_place}
use Rattle.cdcl_conflict_theory.proofs.Lower.{front_contains, front_at}
use Rattle.cdcl_conflict_theory.proofs.Members.{contains-cons, contains-head, contains-map, from_map, all_members}

-- the negation of the literal at a place is not false by an earlier one
pub not_false_before : (clauses : Numbered ℕ) (steps : Steps) (place end : ℕ) → IsTrail clauses steps → place < size_of steps → end ≤ place → Contains (take end steps.literals) (opposite (negation_at steps place)) → ⊥
not_false_before clauses steps place end trail within order member =
    let here = front_at steps end (opposite (negation_at steps place)) (omega arith) member in
    let same = one_place clauses steps here.0 place trail (omega (arith, here.1)) within (here.2 ∙ opposite-opposite (literal_at steps place)) in
    omega (arith, here.1)

-- nor true by any
not_true_before : (clauses : Numbered ℕ) (steps : Steps) (place end : ℕ) → IsTrail clauses steps → place < size_of steps → end ≤ size_of steps → Contains (take end steps.literals) (negation_at steps place) → ⊥
not_true_before clauses steps place end trail within order member =
    let here = front_at steps end (negation_at steps place) order member in
    clash clauses steps place here.0 trail within (omega (arith, here.1)) (sym here.2)

-- the asserted literal is the one left
pub unit_after : (clauses : Numbered ℕ) (steps : Steps) (literals : List ℕ) (end : ℕ) → IsTrail clauses steps → (asserting : IsAsserting steps literals) → end ≤ steps.start → All (λ place. place < end) asserting.others →
    IsUnit (take end steps.literals) literals (negation_at steps asserting.first)
unit_after clauses steps literals end trail asserting order below =
    let places = asserting.first ∷ asserting.others in
    rw asserting.is record {
      member = contains-map (negation_at steps) places asserting.first (contains-head asserting.first asserting.others);
      not_true = not_true_before clauses steps asserting.first end trail asserting.within (omega (arith, trail.within));
      not_false = not_false_before clauses steps asserting.first end trail asserting.within (omega (arith, asserting.current));
      others = all_members (λ other. (other ≡ negation_at steps asserting.first) ⊎ Contains (take end steps.literals) (opposite other)) (lemma_of steps places) (λ other member.
          let found = from_map (negation_at steps) places other member in
          elim (contains-cons asserting.first asserting.others found.0 found.1) [
            | inl same ↦ inl (sym found.2 ∙ ap (negation_at steps) (sym same))
            | inr there ↦
                let before = All-contains (λ p. p < end) asserting.others found.0 below there in
                inr (subst (Contains (take end steps.literals)) (sym (ap opposite (sym found.2) ∙ opposite-opposite (literal_at steps found.0)))
                (front_contains steps end found.0 (omega (arith, trail.within)) before))
          ]);
    }
