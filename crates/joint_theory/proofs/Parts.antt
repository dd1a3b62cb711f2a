-- Tests of lists that are put together, and the values of terms that count where a literal is true.
use Rattle.std.proofs.Common.{◌≡◌, inl, inr, refl, sym, ap, ◌∙◌, ℕ, zero, suc, ◌+◌, ◌≤◌, ◌<◌, Bool as Truth, true, false, ◌&&◌, List, [], ◌∷◌, ◌++◌, map, arith}
use Rattle.std.specs.Prelude.{IsTrue}
use Rattle.std.specs.List.{list_all, list_any, range_with_len}
use Rattle.std.proofs.lemmas.Bool.{and_from, and_parts, both_ways, cases_eq, or_cases, or_left, or_right}
use Rattle.std.proofs.lemmas.List.Folds.{list_all-append}

pub append-parts : {A : Type 0} (test : A → Truth) (first second : List A) → IsTrue (list_all test (first ++ second)) → IsTrue (list_all test first) × IsTrue (list_all test second)
append-parts test first second h = and_parts (list_all test first) (list_all test second) (sym (list_all-append test first second) ∙ h)

pub append-from : {A : Type 0} (test : A → Truth) (first second : List A) → IsTrue (list_all test first) → IsTrue (list_all test second) → IsTrue (list_all test (first ++ second))
append-from test first second a b = list_all-append test first second ∙ and_from (list_all test first) (list_all test second) a b

pub one-part : {A : Type 0} (test : A → Truth) (element : A) → IsTrue (list_all test (element ∷ [])) → IsTrue (test element)
one-part test element h = (and_parts (test element) true h).0

pub one-from : {A : Type 0} (test : A → Truth) (element : A) → IsTrue (test element) → IsTrue (list_all test (element ∷ []))
one-from test element h = and_from (test element) true h refl

pub map-parts : {A B : Type 0} (test : B → Truth) (f : A → B) (list : List A) → list_all test (map f list) ≡ list_all (λ x. test (f x)) list
map-parts test f [] = refl
map-parts test f (x ∷ list) = ap (λ t. test (f x) && t) (map-parts test f list)

pub all-weaker : {A : Type 0} (test other : A → Truth) → ((x : A) → IsTrue (test x) → IsTrue (other x)) → (list : List A) → IsTrue (list_all test list) → IsTrue (list_all other list)
all-weaker test other each [] h = refl
all-weaker test other each (x ∷ list) h =
    let parts = and_parts (test x) (list_all test list) h in
    and_from (other x) (list_all other list) (each x parts.0) (all-weaker test other each list parts.1)

-- some number of a range
pub some-of : {A : Type 0} (test : A → Truth) (f : ℕ → A) (first count : ℕ) → IsTrue (list_any test (map f (range_with_len first count)))
    → (number : ℕ) × (first ≤ number) × (number < first + count) × IsTrue (test (f number))
some-of test f first zero h = absurd (both_ways false refl h)
some-of test f first (suc count) h = elim (or_cases (test (f first)) (list_any test (map f (range_with_len (first + 1) count))) h)
    as (λ _. (number : ℕ) × (first ≤ number) × (number < first + suc count) × IsTrue (test (f number))) [
      | inl here ↦ (first, omega arith, omega arith, here)
      | inr rest ↦ (let r = some-of test f (first + 1) count rest in (r.0, omega (arith, r.1), omega (arith, r.2), r.3))
    ]

pub of-some : {A : Type 0} (test : A → Truth) (f : ℕ → A) (first count number : ℕ) → first ≤ number → number < first + count → IsTrue (test (f number))
    → IsTrue (list_any test (map f (range_with_len first count)))
of-some test f first zero number low high h = absurd (omega arith)
of-some test f first (suc count) number low high h = elim (cases_eq first number) [
  | inl e ↦ or_left (test (f first)) (list_any test (map f (range_with_len (first + 1) count))) (ap (λ n. test (f n)) e ∙ h)
  | inr n ↦ or_right (test (f first)) (list_any test (map f (range_with_len (first + 1) count))) (of-some test f (first + 1) count number (omega (arith, n)) (omega arith) h)
]
