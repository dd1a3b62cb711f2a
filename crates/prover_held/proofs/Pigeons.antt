-- Of more numbers than there are below a bound, two are one.
use Rattle.std.proofs.Common.{◌≡◌, ◌⊎◌, inl, inr, ℕ, zero, suc, ◌<◌, ◌≤◌, refl, sym, ap, ◌∙◌, arith}
use Rattle.std.specs.Prelude.{◌==◌, if◌then◌else◌}
use Rattle.std.proofs.lemmas.Bool.{cases_lt, eq-eqb, ne_eqb}

pub equal_cases : (a b : ℕ) → (a ≡ b) ⊎ (a ≡ b → ⊥)
equal_cases a b = elim (cases_lt a b) [
  | inl k ↦ inr (λ e. omega arith)
  | inr k ↦ elim (cases_lt b a) [ inl l ↦ inr (λ e. omega arith) | inr l ↦ inl (omega arith) ]
]

-- a number is among the first ones, or none of them is it
search : (count : ℕ) (f : ℕ → ℕ) (x : ℕ) → ((i : ℕ) × (i < count) × (f i ≡ x)) ⊎ ((i : ℕ) → i < count → f i ≡ x → ⊥)
search zero f x = inr (λ i low e. omega arith)
search (suc count) f x = elim (search count f x) [
  | inl found ↦ inl (found.0, omega (arith, found.1), found.2)
  | inr none ↦ elim (equal_cases (f count) x) [
    | inl e ↦ inl (count, omega arith, e)
    | inr other ↦ inr (λ i low e. elim (cases_lt i count) [
      | inl k ↦ none i k e
      | inr k ↦ let s : i ≡ count = omega arith in other (sym (ap f s) ∙ e)
    ])
  ]
]

-- two places with one number
pub record Twice (f : ℕ → ℕ) (most : ℕ) : Type 0 where
  pub first : ℕ
  pub second : ℕ
  pub less : first < second
  pub within : second ≤ most
  pub same : f first ≡ f second

-- where the last number comes nowhere else, it takes the place of the largest one
module _ (most : ℕ) (f : ℕ → ℕ) (below : (i : ℕ) → i ≤ suc most → f i < suc most) (none : (i : ℕ) → i < suc most → f i ≡ f (suc most) → ⊥) where
  abbrev x : ℕ
  x = f (suc most)

  abbrev g : ℕ → ℕ
  g i = if f i == most then x else f i

  g_cases : (i : ℕ) → ((f i ≡ most) × (g i ≡ x)) ⊎ ((f i ≡ most → ⊥) × (g i ≡ f i))
  g_cases i = elim (equal_cases (f i) most) [
    | inl e ↦ inl (e, rw (eq-eqb (f i) most e) refl)
    | inr other ↦ inr (other, rw (ne_eqb (f i) most other) refl)
  ]

  less-most : (y : ℕ) → y < suc most → (y ≡ most → ⊥) → y < most
  less-most y low other = elim (cases_lt y most) [ inl k ↦ k | inr k ↦ absurd (other (omega arith)) ]

  g-below : (i : ℕ) → i ≤ most → g i < most
  g-below i low = elim (g_cases i) [
    | inl at ↦ rw at.1 (less-most x (below (suc most) (omega arith)) (λ e. none i (omega arith) (at.0 ∙ sym e)))
    | inr at ↦ rw at.1 (less-most (f i) (below i (omega arith)) at.0)
  ]

  g-same : (i j : ℕ) → i ≤ most → j ≤ most → g i ≡ g j → f i ≡ f j
  g-same i j low high same = elim (g_cases i) [
    | inl at ↦ elim (g_cases j) [
      | inl to ↦ at.0 ∙ sym to.0
      | inr to ↦ absurd (none j (omega arith) (sym to.1 ∙ sym same ∙ at.1))
    ]
    | inr at ↦ elim (g_cases j) [
      | inl to ↦ absurd (none i (omega arith) (sym at.1 ∙ same ∙ to.1))
      | inr to ↦ sym at.1 ∙ same ∙ to.1
    ]
  ]

  lifted : Twice g most → Twice f (suc most)
  lifted t = record {
    first = t.first;
    second = t.second;
    less = t.less;
    within = omega (arith, t.within);
    same = g-same t.first t.second (omega (arith, t.less, t.within)) t.within t.same;
  }

pub pigeons : (most : ℕ) (f : ℕ → ℕ) → ((i : ℕ) → i ≤ most → f i < most) → Twice f most
pigeons zero f below = absurd (omega (arith, below 0 (omega arith)))
pigeons (suc most) f below = elim (search (suc most) f (f (suc most))) [
  | inl found ↦ record { first = found.0; second = suc most; less = found.1; within = omega arith; same = found.2 }
  | inr none ↦ lifted most f below none (pigeons most (g most f below none) (g-below most f below none))
]
