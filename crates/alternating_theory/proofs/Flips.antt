-- The score of the opposite obligations, on the opposite course.
use Rattle.std.proofs.Common.{◌≡◌, ◌⊎◌, inl, inr, refl, sym, ap, ◌∙◌, ℕ, ◌<◌, Bool as Truth, true, false}
use Rattle.std.specs.Prelude.{IsTrue, not, ◌&&◌, ◌||◌}
use Rattle.std.proofs.lemmas.Bool.{both_ways, not-true, not-false, not_from_true, not_from_false}
use mathlib.Core.Path.{fun_ext}
use Rattle.psl_tree.specs.Trace.{dual_letter}
use Rattle.psl_tree.specs.declared.letter.Letter.{Letter}
use Rattle.alternating_theory.specs.Courses.{Course, opposite}
use Rattle.alternating_theory.specs.Construction.{opposite_obligation}
use Rattle.alternating_theory.specs.Obligations.{Obligation}
use Rattle.alternating_theory.specs.Positive as positive
use Rattle.alternating_theory.specs.Positive.{Positive, Const, Holds, Owed, And, Or, met, owes}
use Rattle.alternating_theory.proofs.Duals.{owes-opposite}
use Rattle.alternating_theory.proofs.MetLaws.{met-opposite, within-opposite}
use Rattle.alternating_theory.proofs.Scores.{lower, Scored}

pub not-twice : (a : Truth) → not (not a) ≡ a
not-twice true = refl
not-twice false = refl

not-and : (a b : Truth) → not (not a && b) ≡ (a || not b)
not-and true b = refl
not-and false b = refl

not-or : (a b : Truth) → not (not a || not b) ≡ (a && b)
not-or true true = refl
not-or true false = refl
not-or false b = refl

-- the opposite is met on a letter where the dual letter does not meet the combination with the negated values
pub met-turned : (d : Positive) (x : Letter) (f g : ℕ → Truth) → ((r : ℕ) → not (f r) ≡ g r) → met (positive.opposite d) x f ≡ not (met d (dual_letter x) g)
met-turned d x f g e = met-opposite d x f ∙ ap (λ (h : ℕ → Truth). not (met d (dual_letter x) h)) (fun_ext e)

module _ (c : Course) (n top bottom low high : ℕ) (look : ℕ → Obligation) (s : Scored (opposite c) n bottom top low high look) where
  turned : (p q : ℕ) (f g : ℕ → Truth) → ((r : ℕ) → not (f r) ≡ g r)
      → met (positive.opposite (look q).delta) (c.letter p) f ≡ not (met (look q).delta (dual_letter (c.letter p)) g)
  turned p q f g e = met-turned (look q).delta (c.letter p) f g e

  pub flipped-score : Scored c n top bottom low high (λ q. opposite_obligation (look q))
  flipped-score = record {
    value = λ p q. not (s.value p q);
    level = s.level;
    rank = s.rank;
    height = s.height;
    within = λ q a b. within-opposite low high (look q).delta (s.within q a b);
    step = λ p q i a b. ap (λ (t : Truth). not t) (s.step p q i a b)
        ∙ sym (turned p q (λ r. not (s.value (c.next p) r)) (s.value (c.next p)) (λ r. not-twice (s.value (c.next p) r)));
    wins = λ p q i a b acc v.
        turned p q (λ r. not (s.value (c.next p) r) && lower s.level s.rank p q (c.next p) r) (λ r. s.value (c.next p) r || not (lower s.level s.rank p q (c.next p) r))
        (λ r. not-and (s.value (c.next p) r) (lower s.level s.rank p q (c.next p) r))
        ∙ not_from_false _ (s.loses p q i a b (not-false (look q).accepting acc) (not-true (s.value p q) v));
    loses = λ p q i a b acc v.
        turned p q (λ r. not (s.value (c.next p) r) || not (lower s.level s.rank p q (c.next p) r)) (λ r. s.value (c.next p) r && lower s.level s.rank p q (c.next p) r)
        (λ r. not-or (s.value (c.next p) r) (lower s.level s.rank p q (c.next p) r))
        ∙ not_from_true _ (s.wins p q i a b (not-true (look q).accepting acc) (not-false (s.value p q) v));
    falls = λ q r a b o. at q r (s.falls q r a b (sym (owes-opposite (look q).delta r) ∙ o));
    beneath = s.beneath;
    ends = record {
      at_top = λ q a b. ap (λ (t : Truth). not t) (s.ends.at_bottom q a b);
      at_bottom = λ q a b. ap (λ (t : Truth). not t) (s.ends.at_top q a b);
      up = λ p q i a b v. turn (look q).bottom (s.value p q) (s.ends.down p q i a b) v;
      down = λ p q i a b v. turn (s.value p q) (look q).top (s.ends.up p q i a b) v;
    };
  }
    where
      at : (q r : ℕ) → (s.level r < s.level q) ⊎ ((s.level r ≡ s.level q) × ((look r).accepting ≡ (look q).accepting))
          → (s.level r < s.level q) ⊎ ((s.level r ≡ s.level q) × (not (look r).accepting ≡ not (look q).accepting))
      at q r (inl u) = inl u
      at q r (inr u) = inr (u.0, ap (λ (t : Truth). not t) u.1)

      turn : (t u : Truth) → (IsTrue t → IsTrue u) → IsTrue (not u) → IsTrue (not t)
      turn true u f h = absurd (both_ways u (not-true u h) (f refl))
      turn false u f h = refl

  pub flipped-value : (p q : ℕ) → flipped-score.value p q ≡ not (s.value p q)
  unfolding flipped-score
  flipped-value p q = refl
