-- One number above others.
use Rattle.std.proofs.Common.{◌≡◌, sym, ap, ◌∙◌, subst, ℕ, ◌+◌, ◌-◌, ◌≤◌, ◌<◌, Bool as Truth, arith}
use Rattle.std.specs.Prelude.{IsTrue}
use Rattle.alternating_theory.specs.Courses.{Course}
use Rattle.alternating_theory.proofs.Ends.{IsCourse}
use Rattle.alternating_theory.specs.Obligations.{Obligation}
use Rattle.alternating_theory.specs.Positive.{met, OwesWithin}
use Rattle.alternating_theory.proofs.Blocks.{turn, with_block, found, block_value, whole_value, block-at, block-step, block-sound, block, block-value}
use Rattle.alternating_theory.proofs.Scores.{AtEnds}
use Rattle.alternating_theory.proofs.Splits.{below_or, below-right, Upper}
use Rattle.alternating_theory.proofs.Starts.{IsStart}

module _ (c : Course) (n top bottom : ℕ) (course : IsCourse c n top bottom) (low mid high : ℕ) (size : high ≡ mid + 1) (begins : low ≤ mid)
    (look : ℕ → Obligation) (old : ℕ → ℕ → Truth) (o : Obligation) (last : look mid ≡ o) (within : OwesWithin low high o.delta) where
  -- the number is the block's first
  only : (P : ℕ → Type 0) → P mid → (t : ℕ) → t < 1 → P (mid + t)
  only P h t l = let e : mid ≡ mid + t = omega arith in subst P e h

  pub is-single : (t : ℕ) → t < 1 → look (mid + t) ≡ o
  is-single = only (λ q. look q ≡ o) last

  pub single-kind : (t : ℕ) → t < 1 → (look (mid + t)).accepting ≡ o.accepting
  single-kind t l = ap (λ (k : Obligation). k.accepting) (is-single t l)

  pub single-within : (t : ℕ) → t < 1 → OwesWithin low high (look (mid + t)).delta
  single-within t l = subst (λ (k : Obligation). OwesWithin low high k.delta) (sym (is-single t l)) within

  abbrev pub single_found : ℕ → Truth
  single_found p = found c n top bottom course low mid high 1 size begins look old o.accepting single-kind single-within p 0

  abbrev pub single_value : ℕ → Truth
  single_value p = turn o.accepting (single_found p)

  -- the values with the number's own
  abbrev pub single_whole : ℕ → ℕ → Truth
  single_whole p r = whole_value c n top bottom course low mid high 1 size begins look old o.accepting single-kind single-within p r

  pub single-step : (p : ℕ) → p < n → single_value p ≡ met o.delta (c.letter p) (λ r. single_whole (c.next p) r)
  single-step p l =
      sym (block-at c n top bottom course low mid high 1 size begins look old o.accepting single-kind single-within p 0)
      ∙ block-step c n top bottom course low mid high 1 size begins look old o.accepting single-kind single-within p 0 l (omega arith)
      ∙ ap (λ (k : Obligation). met k.delta (c.letter p) (λ r. single_whole (c.next p) r)) (is-single 0 (omega arith))

  pub single-at : (p : ℕ) → single_whole p mid ≡ single_value p
  single-at p = below-right mid mid (old p mid) (block_value c n top bottom course low mid high 1 size begins look old o.accepting single-kind single-within p mid) (omega arith) ∙ at
    where
      at : block_value c n top bottom course low mid high 1 size begins look old o.accepting single-kind single-within p mid ≡ single_value p
      at = let e : mid - mid ≡ 0 = omega arith in
          ap (λ i. turn o.accepting (found c n top bottom course low mid high 1 size begins look old o.accepting single-kind single-within p i)) e

  -- the values where the number has these
  abbrev pub single_with : (ℕ → Truth) → ℕ → ℕ → Truth
  single_with f p r = below_or mid r (old p r) (turn o.accepting (f p))

  pub single-sound : (T : ℕ → Type 0) → ((f : ℕ → ℕ → Truth) → ((p : ℕ) → p < n → IsTrue (f p 0) → T p) → (p : ℕ) → p < n
      → IsTrue (turn o.accepting (met o.delta (c.letter p) (λ r. with_block c n top bottom course low mid high 1 size begins look old o.accepting single-kind single-within f (c.next p) r))) → T p)
      → (p : ℕ) → p < n → IsTrue (single_found p) → T p
  single-sound T gives p l h =
      block-sound c n top bottom course low mid high 1 size begins look old o.accepting single-kind single-within (λ q t. T q)
      (λ f k q t i j v. gives f (λ a x w. k a 0 x (omega arith) w) q i
      (subst (λ (u : Obligation). IsTrue (turn o.accepting (met u.delta (c.letter q)
      (λ r. with_block c n top bottom course low mid high 1 size begins look old o.accepting single-kind single-within f (c.next q) r)))) (is-single t j) v))
      p 0 l (omega arith) h

  module _ (start : IsStart n top bottom o single_value) where
    each : (P : ℕ → Type 0) → P mid → (q : ℕ) → mid ≤ q → q < high → P q
    each P h q a b = let e : mid ≡ q = omega (arith, size) in subst P e h

    value-is : (p q : ℕ) → mid ≤ q → q < high → block_value c n top bottom course low mid high 1 size begins look old o.accepting single-kind single-within p q ≡ single_value p
    value-is p q a b = let e : q - mid ≡ 0 = omega (arith, size) in
        ap (λ i. turn o.accepting (found c n top bottom course low mid high 1 size begins look old o.accepting single-kind single-within p i)) e

    looks : (q : ℕ) → mid ≤ q → q < high → look q ≡ o
    looks = each (λ q. look q ≡ o) last

    pub single-ends : AtEnds n top bottom mid high look (block_value c n top bottom course low mid high 1 size begins look old o.accepting single-kind single-within)
    single-ends = record {
      at_top = λ q a b. value-is top q a b ∙ start.at_top ∙ sym (ap (λ (k : Obligation). k.top) (looks q a b));
      at_bottom = λ q a b. value-is bottom q a b ∙ start.at_bottom ∙ sym (ap (λ (k : Obligation). k.bottom) (looks q a b));
      up = λ p q i a b v. subst (λ (k : Obligation). IsTrue k.top) (sym (looks q a b)) (start.up p i (sym (value-is p q a b) ∙ v));
      down = λ p q i a b v. value-is p q a b ∙ start.down p i (subst (λ (k : Obligation). IsTrue k.bottom) (looks q a b) v);
    }

    pub single : Upper c n top bottom low mid high look old
    single = block c n top bottom course low mid high 1 size begins look old o.accepting single-kind single-within single-ends

    pub single-whole : (p r : ℕ) → below_or mid r (old p r) (single.value p r) ≡ single_whole p r
    unfolding single
    single-whole p r = ap (λ (t : Truth). below_or mid r (old p r) t)
        (block-value c n top bottom course low mid high 1 size begins look old o.accepting single-kind single-within single-ends p r)
