-- Rising lists of numbers, and what stands in them.
use Rattle.std.proofs.Common.{◌≡◌, inl, inr, refl, sym, ap, ◌∙◌, subst, ℕ, zero, suc, ◌+◌, ◌≤◌, ◌<◌, Bool as Truth, true, false, cond, ◌&&◌, ◌||◌, eqb, List, [], ◌∷◌, length, get_or, arith}
use Rattle.std.specs.Prelude.{IsTrue, All, Contains, filter}
use Rattle.std.specs.List.{range_with_len}
use Rattle.std.specs.List.Sorted.{IsStrictlyIncreasing}
use Rattle.std.proofs.lemmas.Bool.{cases_eq, or_left, or_right, or_cases, eq-eqb, eqb-true, both_ways}
use Rattle.std.proofs.lemmas.List.Elements.{All-head, All-tail, All-filter, All-contains_itself}
use Rattle.std.proofs.lemmas.List.FromFn.{length-range_with_len, get_or-range_with_len}
use Rattle.std.proofs.lemmas.List.Kept.{IsStrictlyIncreasing-filter}
use Rattle.joint_theory.specs.States.{is_listed}

pub rising-range : (first count : ℕ) → IsStrictlyIncreasing (range_with_len first count)
rising-range first count k below =
    let size = length-range_with_len first count in
    omega (arith, get_or-range_with_len first count k 0 (omega arith), get_or-range_with_len first count (k + 1) 0 (omega arith))

pub rising-filter : (test : ℕ → Truth) (count : ℕ) → IsStrictlyIncreasing (filter test (range_with_len 0 count))
rising-filter test count = IsStrictlyIncreasing-filter test (range_with_len 0 count) (rising-range 0 count)

pub rising-one : (number : ℕ) → IsStrictlyIncreasing (number ∷ [])
rising-one number k below = absurd (omega arith)

pub listed-range : (first count number : ℕ) → first ≤ number → number < first + count → IsTrue (is_listed (range_with_len first count) number)
listed-range first zero number low high = absurd (omega arith)
listed-range first (suc count) number low high = elim (cases_eq first number) [
  | inl e ↦ or_left (eqb first number) (is_listed (range_with_len (first + 1) count) number) (eq-eqb first number e)
  | inr n ↦ or_right (eqb first number) (is_listed (range_with_len (first + 1) count) number) (listed-range (first + 1) count number (omega (arith, n)) (omega arith))
]

both-false : (b : Truth) → (b && false) ≡ false
both-false true = refl
both-false false = refl

filter-step : (test : ℕ → Truth) (first number : ℕ) (numbers : List ℕ) → is_listed (filter test numbers) number ≡ (is_listed numbers number && test number)
    → (t : Truth) → test first ≡ t → (same : Truth) → eqb first number ≡ same
    → is_listed (cond t (first ∷ filter test numbers) (filter test numbers)) number ≡ ((same || is_listed numbers number) && test number)
filter-step test first number numbers rest true e true f = rw f (sym (ap test (sym (eqb-true first number f)) ∙ e))
filter-step test first number numbers rest true e false f = rw f rest
filter-step test first number numbers rest false e true f =
    let none : test number ≡ false = ap test (sym (eqb-true first number f)) ∙ e in
    rest ∙ ap (λ t. is_listed numbers number && t) none ∙ both-false (is_listed numbers number) ∙ sym none
filter-step test first number numbers rest false e false f = rest

-- what stands in a filtered list
pub listed-filter : (test : ℕ → Truth) (numbers : List ℕ) (number : ℕ) → is_listed (filter test numbers) number ≡ (is_listed numbers number && test number)
listed-filter test [] number = refl
listed-filter test (first ∷ numbers) number =
    filter-step test first number numbers (listed-filter test numbers number) (test first) refl (eqb first number) refl

pub listed-contains : (numbers : List ℕ) (number : ℕ) → IsTrue (is_listed numbers number) → Contains numbers number
listed-contains [] number h = absurd (both_ways false refl h)
listed-contains (first ∷ numbers) number h = elim (or_cases (eqb first number) (is_listed numbers number) h) [
  | inl e ↦ (0, omega arith, eqb-true first number e)
  | inr k ↦ (let c = listed-contains numbers number k in (suc c.0, omega (arith, c.1), c.2))
]

pub contains-listed : (numbers : List ℕ) (number : ℕ) → Contains numbers number → IsTrue (is_listed numbers number)
contains-listed numbers number c = at numbers c.0 c.1 c.2
  where
    at : (list : List ℕ) (k : ℕ) → k < length list → get_or list k number ≡ number → IsTrue (is_listed list number)
    at [] k below e = absurd (omega arith)
    at (first ∷ list) zero below e = or_left (eqb first number) (is_listed list number) (eq-eqb first number e)
    at (first ∷ list) (suc k) below e = or_right (eqb first number) (is_listed list number) (at list k (omega arith) e)

-- two tests that agree on each number of a list
pub filter-same : (test other : ℕ → Truth) (numbers : List ℕ) → All (λ number. test number ≡ other number) numbers → filter test numbers ≡ filter other numbers
filter-same test other [] each = refl
filter-same test other (first ∷ numbers) each =
    let here = All-head (λ number. test number ≡ other number) first numbers each in
    let rest = filter-same test other numbers (All-tail (λ number. test number ≡ other number) first numbers each) in
    rw (here, rest) refl

pub among-filter : (test : ℕ → Truth) (numbers : List ℕ) → All (Contains numbers) (filter test numbers)
among-filter test numbers = All-filter test (Contains numbers) numbers (All-contains_itself numbers)

-- a number that stands in a list
pub at-listed : (P : ℕ → Type 0) (numbers : List ℕ) → All P numbers → (number : ℕ) → IsTrue (is_listed numbers number) → P number
at-listed P numbers each number h = by (listed-contains numbers number h)
  where
    by : (k : ℕ) × (k < length numbers) × (get_or numbers k number ≡ number) → P number
    by c = subst P c.2 (each c.0 number c.1)

pub from-listed : (P : ℕ → Type 0) (numbers : List ℕ) → ((number : ℕ) → IsTrue (is_listed numbers number) → P number) → All P numbers
from-listed P numbers each k other below = each (get_or numbers k other) (contains-listed numbers (get_or numbers k other) (k, below, again numbers k below))
  where
    again : (list : List ℕ) (i : ℕ) → i < length list → get_or list i (get_or numbers k other) ≡ get_or list i other
    again [] i low = absurd (omega arith)
    again (x ∷ list) zero low = refl
    again (x ∷ list) (suc i) low = again list i (omega arith)
