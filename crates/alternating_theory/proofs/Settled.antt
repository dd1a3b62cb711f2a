-- Sets of numbers that grow round by round: after as many rounds as there are numbers nothing is added.
use Rattle.std.proofs.Common.{◌≡◌, ◌⊎◌, inl, inr, refl, sym, ◌∙◌, ℕ, zero, suc, ◌+◌, ◌≤◌, ◌<◌, Bool as Truth, true, false, if◌then◌else◌, arith}
use Rattle.std.specs.Prelude.{IsTrue}
use Rattle.std.proofs.lemmas.Bool.{both_ways}
use Rattle.alternating_theory.specs.Trimmed.{count_below}

pub one_of : Truth → ℕ
one_of b = if b then 1 else 0

pub count-at_most : (n : ℕ) (f : ℕ → Truth) → count_below n f ≤ n
count-at_most zero f = omega arith
count-at_most (suc n) f = let e = count-at_most n (λ q. f (suc q)) in at (f zero) e
  where
    at : (b : Truth) → count_below n (λ q. f (suc q)) ≤ n → (if b then 1 else 0) + count_below n (λ q. f (suc q)) ≤ suc n
    at true e = omega arith
    at false e = omega arith

-- more of the numbers, or the same
abbrev pub SameBelow : ℕ → (ℕ → Truth) → (ℕ → Truth) → Type 0
SameBelow n f g = (q : ℕ) → q < n → g q ≡ f q

pub same-or_more : (n : ℕ) (f g : ℕ → Truth) → ((q : ℕ) → IsTrue (f q) → IsTrue (g q))
    → (SameBelow n f g × (count_below n f ≤ count_below n g)) ⊎ (count_below n f < count_below n g)
same-or_more zero f g m = inl ((λ q h. absurd (omega arith)), omega arith)
same-or_more (suc n) f g m = at (f zero) (g zero) refl refl (same-or_more n (λ q. f (suc q)) (λ q. g (suc q)) (λ q h. m (suc q) h))
  where
    both : (b c : Truth) → f zero ≡ b → g zero ≡ c → b ≡ c → SameBelow n (λ q. f (suc q)) (λ q. g (suc q)) → (q : ℕ) → q < suc n → g q ≡ f q
    both b c e d k s zero h = d ∙ sym k ∙ sym e
    both b c e d k s (suc q) h = s q (omega arith)

    Result : Truth → Truth → Type 0
    Result b c = (SameBelow (suc n) f g × ((if b then 1 else 0) + count_below n (λ q. f (suc q)) ≤ (if c then 1 else 0) + count_below n (λ q. g (suc q))))
        ⊎ ((if b then 1 else 0) + count_below n (λ q. f (suc q)) < (if c then 1 else 0) + count_below n (λ q. g (suc q)))

    at : (b c : Truth) → f zero ≡ b → g zero ≡ c
        → ((SameBelow n (λ q. f (suc q)) (λ q. g (suc q)) × (count_below n (λ q. f (suc q)) ≤ count_below n (λ q. g (suc q)))) ⊎ (count_below n (λ q. f (suc q)) < count_below n (λ q. g (suc q))))
        → (SameBelow (suc n) f g × ((if b then 1 else 0) + count_below n (λ q. f (suc q)) ≤ (if c then 1 else 0) + count_below n (λ q. g (suc q))))
        ⊎ ((if b then 1 else 0) + count_below n (λ q. f (suc q)) < (if c then 1 else 0) + count_below n (λ q. g (suc q)))
    at true true e d (inl s) = inl (both true true e d refl s.0, omega (arith, s.1))
    at true true e d (inr s) = inr (omega (arith, s))
    at false false e d (inl s) = inl (both false false e d refl s.0, omega (arith, s.1))
    at false false e d (inr s) = inr (omega (arith, s))
    at true false e d s = absurd (both_ways (g zero) d (m zero e))
    at false true e d (inl s) = inr (omega (arith, s.1))
    at false true e d (inr s) = inr (omega (arith, s))

module _ (n : ℕ) (f : ℕ → ℕ → Truth)
    (grows : (k q : ℕ) → IsTrue (f k q) → IsTrue (f (suc k) q))
    (follows : (k : ℕ) → SameBelow n (f k) (f (suc k)) → SameBelow n (f (suc k)) (f (suc (suc k)))) where
  rounds : (k : ℕ) → SameBelow n (f k) (f (suc k)) ⊎ (k < count_below n (f (suc k)))
  rounds zero = first (same-or_more n (f zero) (f (suc zero)) (grows zero))
    where
      first : ((SameBelow n (f zero) (f (suc zero)) × (count_below n (f zero) ≤ count_below n (f (suc zero)))) ⊎ (count_below n (f zero) < count_below n (f (suc zero))))
          → SameBelow n (f zero) (f (suc zero)) ⊎ (zero < count_below n (f (suc zero)))
      first (inl s) = inl s.0
      first (inr s) = inr (omega (arith, s))
  rounds (suc k) = later (rounds k) (same-or_more n (f (suc k)) (f (suc (suc k))) (grows (suc k)))
    where
      later : (SameBelow n (f k) (f (suc k)) ⊎ (k < count_below n (f (suc k))))
          → ((SameBelow n (f (suc k)) (f (suc (suc k))) × (count_below n (f (suc k)) ≤ count_below n (f (suc (suc k))))) ⊎ (count_below n (f (suc k)) < count_below n (f (suc (suc k)))))
          → SameBelow n (f (suc k)) (f (suc (suc k))) ⊎ (suc k < count_below n (f (suc (suc k))))
      later (inl s) t = inl (follows k s)
      later (inr s) (inl t) = inl t.0
      later (inr s) (inr t) = inr (omega (arith, s, t))

  pub settled : SameBelow n (f n) (f (suc n))
  settled = elim (rounds n) as (λ _. SameBelow n (f n) (f (suc n))) [ inl s ↦ s | inr s ↦ absurd (omega (arith, s, count-at_most n (f (suc n)))) ]
