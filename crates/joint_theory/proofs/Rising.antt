-- Rising lists of numbers are told by what stands in them, and counts by what they are more than.
use Rattle.std.proofs.Common.{◌≡◌, ◌⊎◌, inl, inr, refl, sym, ap, ◌∙◌, subst, ℕ, zero, suc, ◌+◌, ◌≤◌, ◌<◌, Bool as Truth, true, false, cond, ◌||◌, eqb, ltb, List, [], ◌∷◌, length, get_or, arith}
use Rattle.std.specs.Prelude.{IsTrue, All, filter, slice_index, count_by}
use Rattle.std.specs.List.{range_with_len}
use Rattle.std.specs.List.Sorted.{IsStrictlyIncreasing}
use Rattle.std.proofs.lemmas.Bool.{cases_Bool, cases_eq, cases_order, both_ways, or_from, cond-true, cond-false, eq-eqb, ne_eqb, lt-ltb, le-ltb, ltb-true, ltb-false, false_from_ne_true}
use Rattle.std.proofs.lemmas.List.Elements.{All-head, All-tail}
use Rattle.std.proofs.lemmas.List.FromFn.{length-range_with_len, get_or-range_with_len}
use Rattle.std.proofs.lemmas.List.Sums.{sum_by-cons}
use Rattle.joint_theory.specs.States.{is_listed}
use Rattle.joint_theory.proofs.Numbers.{filter-same}

pub range-all : (P : ℕ → Type 0) (first count : ℕ) → ((number : ℕ) → first ≤ number → number < first + count → P number) → All P (range_with_len first count)
range-all P first count each k other below =
    let size = length-range_with_len first count in
    subst P (sym (get_or-range_with_len first count k other (omega arith))) (each (first + k) (omega arith) (omega arith))

-- each number is more than those before it, and none is below the first
abbrev pub RisesFrom : ℕ → List ℕ → Type 0
RisesFrom low [] = Unit {0}
RisesFrom low (number ∷ numbers) = (low ≤ number) × RisesFrom (suc number) numbers

increasing-tail : (number : ℕ) (numbers : List ℕ) → IsStrictlyIncreasing (number ∷ numbers) → IsStrictlyIncreasing numbers
increasing-tail number numbers rises k below =
    let one : k + 1 ≡ suc k = omega arith in
    let two : k + 1 + 1 ≡ suc (k + 1) = omega arith in
    let here : get_or (number ∷ numbers) (k + 1) 0 ≡ get_or numbers k 0 = ap (λ (n : ℕ). get_or (number ∷ numbers) n 0) one in
    let next : get_or (number ∷ numbers) (k + 1 + 1) 0 ≡ get_or numbers (k + 1) 0 = ap (λ (n : ℕ). get_or (number ∷ numbers) n 0) two in
    omega (arith, here, next, rises (k + 1) (omega arith))

pub rises-from : (numbers : List ℕ) (low : ℕ) → IsStrictlyIncreasing numbers → (0 < length numbers → low ≤ slice_index numbers 0) → RisesFrom low numbers
rises-from [] low rises first = tt
rises-from (number ∷ numbers) low rises first =
    (first (omega arith), rises-from numbers (suc number) (increasing-tail number numbers rises) (λ some. rises 0 (omega arith)))

lower : (numbers : List ℕ) (low below : ℕ) → below ≤ low → RisesFrom low numbers → RisesFrom below numbers
lower [] low below less rises = tt
lower (number ∷ numbers) low below less rises = (omega (arith, rises.0), rises.1)

listed-low : (numbers : List ℕ) (low number : ℕ) → RisesFrom low numbers → number < low → is_listed numbers number ≡ false
listed-low [] low number rises below = refl
listed-low (first ∷ numbers) low number rises below =
    or_from (eqb first number) (is_listed numbers number) (ne_eqb first number (λ e. omega (arith, e, rises.0)))
    (listed-low numbers (suc first) number rises.1 (omega (arith, rises.0)))

filter-nothing : (numbers : List ℕ) → filter (is_listed []) numbers ≡ []
filter-nothing [] = refl
filter-nothing (first ∷ numbers) = filter-nothing numbers

-- a rising list holds those numbers that stand in it
filter-rises : (count first : ℕ) (numbers : List ℕ) → RisesFrom first numbers → All (λ number. number < first + count) numbers
    → filter (is_listed numbers) (range_with_len first count) ≡ numbers
filter-rises zero first [] rises below = refl
filter-rises zero first (number ∷ numbers) rises below = absurd (omega (arith, rises.0, All-head (λ n. n < first + 0) number numbers below))
filter-rises (suc count) first [] rises below = filter-nothing (range_with_len (first + 1) count)
filter-rises (suc count) first (number ∷ numbers) rises below =
    let low = All-head (λ n. n < first + suc count) number numbers below in
    let rest = All-tail (λ n. n < first + suc count) number numbers below in
    by (cases_eq first number)
    (λ same. filter-rises count (first + 1) numbers (lower numbers (suc number) (first + 1) (omega (arith, same)) rises.1)
    (λ k d l. let high = rest k d l in omega arith))
    (λ less. filter-rises count (first + 1) (number ∷ numbers) (omega (arith, less), rises.1) (λ k d l. let high = below k d l in omega arith))
  where
    others : (first ≡ number) → filter (is_listed (number ∷ numbers)) (range_with_len (first + 1) count) ≡ filter (is_listed numbers) (range_with_len (first + 1) count)
    others same =
        filter-same (is_listed (number ∷ numbers)) (is_listed numbers) (range_with_len (first + 1) count)
        (range-all (λ q. is_listed (number ∷ numbers) q ≡ is_listed numbers q) (first + 1) count
        (λ q more _. ap (λ t. t || is_listed numbers q) (ne_eqb number q (λ e. omega (arith, e, same)))))

    by : (first ≡ number) ⊎ (first ≡ number → ⊥) → (first ≡ number → filter (is_listed numbers) (range_with_len (first + 1) count) ≡ numbers)
        → (suc first ≤ number → filter (is_listed (number ∷ numbers)) (range_with_len (first + 1) count) ≡ number ∷ numbers)
        → filter (is_listed (number ∷ numbers)) (range_with_len first (suc count)) ≡ number ∷ numbers
    by (inl same) now later =
        cond-true (is_listed (number ∷ numbers) first) (first ∷ filter (is_listed (number ∷ numbers)) (range_with_len (first + 1) count))
        (filter (is_listed (number ∷ numbers)) (range_with_len (first + 1) count))
        (ap (λ t. t || is_listed numbers first) (eq-eqb number first (sym same)))
        ∙ ap (λ list. first ∷ list) (others same ∙ now same) ∙ ap (λ n. n ∷ numbers) same
    by (inr other) now later =
        let less : suc first ≤ number = omega (arith, other, rises.0) in
        cond-false (is_listed (number ∷ numbers) first) (first ∷ filter (is_listed (number ∷ numbers)) (range_with_len (first + 1) count))
        (filter (is_listed (number ∷ numbers)) (range_with_len (first + 1) count))
        (listed-low (number ∷ numbers) (suc first) first (less, rises.1) (omega arith))
        ∙ later less

pub filter-rising : (count : ℕ) (numbers : List ℕ) → IsStrictlyIncreasing numbers → All (λ number. number < count) numbers
    → filter (is_listed numbers) (range_with_len 0 count) ≡ numbers
filter-rising count numbers rises below =
    filter-rises count 0 numbers (rises-from numbers 0 rises (λ some. omega arith)) (λ k d l. let high = below k d l in omega arith)

-- a test that says what stands in a rising list
pub filter-is : (test : ℕ → Truth) (count : ℕ) (numbers : List ℕ) → IsStrictlyIncreasing numbers → All (λ number. number < count) numbers
    → ((number : ℕ) → number < count → test number ≡ is_listed numbers number) → filter test (range_with_len 0 count) ≡ numbers
filter-is test count numbers rises below same =
    filter-same test (is_listed numbers) (range_with_len 0 count)
    (range-all (λ number. test number ≡ is_listed numbers number) 0 count (λ number _ high. same number (omega arith)))
    ∙ filter-rising count numbers rises below

pub rising-same : (count : ℕ) (numbers others : List ℕ) → IsStrictlyIncreasing numbers → IsStrictlyIncreasing others
    → All (λ number. number < count) numbers → All (λ number. number < count) others
    → ((number : ℕ) → number < count → is_listed numbers number ≡ is_listed others number) → numbers ≡ others
rising-same count numbers others rises rise low also same =
    sym (filter-rising count numbers rises low) ∙ filter-is (is_listed numbers) count others rise also same

-- counts

pub same-count : (most count other : ℕ) → count ≤ most → other ≤ most → ((number : ℕ) → number < most → ltb number count ≡ ltb number other) → count ≡ other
same-count most count other few also same = elim (cases_order count other) [
  | inl e ↦ e
  | inr apart ↦ elim apart [
    | inl less ↦ absurd (both_ways (ltb count other) (sym (same count (omega arith)) ∙ le-ltb count count (omega arith)) (lt-ltb count other less))
    | inr more ↦ absurd (both_ways (ltb other count) (same other (omega arith) ∙ le-ltb other other (omega arith)) (lt-ltb other count more))
  ]
]

ltb-suc : (number count : ℕ) → ltb (suc number) (suc count) ≡ ltb number count
ltb-suc number count = elim (cases_Bool (ltb number count)) [
  | inl less ↦ lt-ltb (suc number) (suc count) (omega (arith, ltb-true number count less)) ∙ sym less
  | inr more ↦ le-ltb (suc number) (suc count) (omega (arith, ltb-false number count more)) ∙ sym more
]

-- bits from one place on that fall but once
abbrev FallOnce : (ℕ → Truth) → ℕ → ℕ → Type 0
FallOnce test first count = (i : ℕ) → suc i < count → IsTrue (test (first + suc i)) → IsTrue (test (first + i))

abbrev one_if : Truth → ℕ
one_if true = 1
one_if false = 0

one-if : (t : Truth) → cond t 1 0 ≡ one_if t
one-if true = refl
one-if false = refl

count-cons : (test : ℕ → Truth) (first count : ℕ) → count_by test (range_with_len first (suc count)) ≡ one_if (test first) + count_by test (range_with_len (first + 1) count)
count-cons test first count =
    sum_by-cons (λ (number : ℕ). cond (test number) 1 0) first (range_with_len (first + 1) count)
    ∙ ap (λ n. n + count_by test (range_with_len (first + 1) count)) (one-if (test first))

none-later : (test : ℕ → Truth) (first count : ℕ) → FallOnce test first count → test first ≡ false → (i : ℕ) → i < count → test (first + i) ≡ false
none-later test first count falls none zero below = ap test (omega arith) ∙ none
none-later test first count falls none (suc i) below =
    false_from_ne_true (test (first + suc i)) (λ on. both_ways (test (first + i)) (none-later test first count falls none i (omega arith)) (falls i below on))

count-none : (test : ℕ → Truth) (first count : ℕ) → ((i : ℕ) → i < count → test (first + i) ≡ false) → count_by test (range_with_len first count) ≡ 0
count-none test first zero none = refl
count-none test first (suc count) none =
    let here : one_if (test first) ≡ 0 = ap one_if (ap test (omega arith) ∙ none 0 (omega arith)) in
    omega (
      arith,
      count-cons test first count,
      here,
      count-none test (first + 1) count (λ i below. ap test (omega arith) ∙ none (suc i) (omega arith)),
    )

pub unary-count : (test : ℕ → Truth) (count first : ℕ) → FallOnce test first count → (i : ℕ) → i < count
    → test (first + i) ≡ ltb i (count_by test (range_with_len first count))
unary-count test zero first falls i below = absurd (omega arith)
unary-count test (suc count) first falls i below =
    by (cases_Bool (test first)) i below (λ j l. unary-count test count (first + 1) later j l)
  where
    later : FallOnce test (first + 1) count
    later i below on = ap test (omega arith) ∙ falls (suc i) (omega arith) (ap test (omega arith) ∙ on)

    rest : ℕ
    rest = count_by test (range_with_len (first + 1) count)

    by : (test first ≡ true) ⊎ (test first ≡ false) → (i : ℕ) → i < suc count
        → ((j : ℕ) → j < count → test (first + 1 + j) ≡ ltb j (count_by test (range_with_len (first + 1) count)))
        → test (first + i) ≡ ltb i (count_by test (range_with_len first (suc count)))
    by (inl on) zero below rec =
        ap test (omega arith) ∙ on ∙ sym (lt-ltb 0 (count_by test (range_with_len first (suc count)))
        (let here : one_if (test first) ≡ 1 = ap one_if on in omega (arith, count-cons test first count, here)))
    by (inl on) (suc i) below rec =
        let here : one_if (test first) ≡ 1 = ap one_if on in
        let all : count_by test (range_with_len first (suc count)) ≡ suc (count_by test (range_with_len (first + 1) count)) = omega (arith, count-cons test first count, here) in
        ap test (omega arith) ∙ rec i (omega arith) ∙ sym (ltb-suc i (count_by test (range_with_len (first + 1) count))) ∙ ap (ltb (suc i)) (sym all)
    by (inr off) i below rec =
        none-later test first (suc count) falls off i below
        ∙ sym (le-ltb i (count_by test (range_with_len first (suc count))) (omega (arith, count-none test first (suc count) (none-later test first (suc count) falls off))))

pub count-is : (test : ℕ → Truth) (most first count : ℕ) → count ≤ most → ((i : ℕ) → i < most → test (first + i) ≡ ltb i count)
    → count_by test (range_with_len first most) ≡ count
count-is test zero first count few same = omega arith
count-is test (suc most) first zero few same =
    count-none test first (suc most) (λ i below. same i below ∙ le-ltb i 0 (omega arith))
count-is test (suc most) first (suc count) few same =
    let here : one_if (test first) ≡ 1 = ap one_if (ap test (omega arith) ∙ same 0 (omega arith) ∙ lt-ltb 0 (suc count) (omega arith)) in
    omega (
      arith,
      count-cons test first most,
      here,
      count-is test most (first + 1) count (omega arith) (λ i below. ap test (omega arith) ∙ same (suc i) (omega arith) ∙ ltb-suc i count),
    )
