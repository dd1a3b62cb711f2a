-- Lists that are made of a function of numbers in order.
use Rattle.std.proofs.Common.{◌≡◌, ℕ, zero, suc, ◌+◌, ◌*◌, ◌<◌, ◌≤◌, ◌⊎◌, inl, inr, Bool, map, refl, sym, ap, ◌∙◌, arith, suc-mul}
use Rattle.std.specs.Prelude.{sum_by}
use Rattle.std.specs.Bool.{IsTrue}
use Rattle.std.specs.List.{list_all, range_with_len}
use Rattle.std.proofs.lemmas.Bool.{and_from, and_parts, cases_eq}
use Rattle.std.proofs.lemmas.List.Sums.{sum_by-cons}

-- each number from the first one on passes a test
abbrev EachFrom : (ℕ → Bool) → ℕ → ℕ → Type 0
EachFrom test first count = (i : ℕ) → first ≤ i → i < first + count → IsTrue (test i)

range-passes : {A : Type 0} (test : A → Bool) (f : ℕ → A) (first count : ℕ) → IsTrue (list_all test (map f (range_with_len first count))) → EachFrom (λ i. test (f i)) first count
range-passes test f first zero passes i low high = absurd (omega arith)
range-passes test f first (suc count) passes i low high =
    let parts = and_parts (test (f first)) (list_all test (map f (range_with_len (first + 1) count))) passes in
    by parts.0 (λ later. range-passes test f (first + 1) count parts.1 i later (omega arith)) (cases_eq first i)
  where
    by : IsTrue (test (f first)) → (first + 1 ≤ i → IsTrue (test (f i))) → (first ≡ i) ⊎ (first ≡ i → ⊥) → IsTrue (test (f i))
    by here rest (inl same) = ap (λ j. test (f j)) (sym same) ∙ here
    by here rest (inr other) = rest (omega (arith, other))

range-passed : {A : Type 0} (test : A → Bool) (f : ℕ → A) (first count : ℕ) → EachFrom (λ i. test (f i)) first count → IsTrue (list_all test (map f (range_with_len first count)))
range-passed test f first zero each = refl
range-passed test f first (suc count) each =
    and_from (test (f first)) (list_all test (map f (range_with_len (first + 1) count))) (each first (omega arith) (omega arith))
    (range-passed test f (first + 1) count (λ i low high. each i (omega arith) (omega arith)))

pub all-below : {A : Type 0} (test : A → Bool) (f : ℕ → A) (count : ℕ) → IsTrue (list_all test (map f (range_with_len 0 count))) → (i : ℕ) → i < count → IsTrue (test (f i))
all-below test f count passes i below = range-passes test f 0 count passes i (omega arith) (omega arith)

pub below-all : {A : Type 0} (test : A → Bool) (f : ℕ → A) (count : ℕ) → ((i : ℕ) → i < count → IsTrue (test (f i))) → IsTrue (list_all test (map f (range_with_len 0 count)))
below-all test f count each = range-passed test f 0 count (λ i low high. each i (omega arith))

-- what each element takes at most
pub sum-most : {A : Type 0} (size : A → ℕ) (f : ℕ → A) (most first count : ℕ) → ((i : ℕ) → size (f i) ≤ most) → sum_by size (map f (range_with_len first count)) ≤ count * most
sum-most size f most first zero each = omega arith
sum-most size f most first (suc count) each = omega (arith, sum_by-cons size (f first) (map f (range_with_len (first + 1) count)), suc-mul count most, each first, sum-most size f most (first + 1) count each)
