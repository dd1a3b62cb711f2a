-- Numbers in a range, and what is gathered of them.
use Rattle.std.proofs.Common.{◌≡◌, ◌∙◌, refl, sym, ap, ℕ, zero, suc, ◌+◌, ◌-◌, ◌<◌, ◌≤◌, Bool, true, false, List, [], ◌∷◌, ◌++◌, Option, None, Some, append_assoc, arith, inl, inr}
use Rattle.std.specs.List.{flat_map, list_all, range_with_len}
use Rattle.std.proofs.lemmas.Bool.{and_from, and_parts, cases_lt}
use Rattle.std.proofs.lemmas.List.{append-nil}
use Rattle.trace.specs.declared.vectors.Vector.{Vector}
use Rattle.trace_buses.specs.Buses.{gathered, with_number}

-- ---- tests of all numbers

-- each passes where all do
pub each-of : (p : ℕ → Bool) (first count number : ℕ) → list_all p (range_with_len first count) ≡ true → first ≤ number → number < first + count → p number ≡ true
each-of p first zero number all from below = absurd (omega (arith, from, below))
each-of p first (suc count) number all from below = elim (cases_lt first number) [
  | inl later ↦ each-of p (first + 1) count number (and_parts (p first) _ all).1 (omega (arith, later)) (omega (arith, below))
  | inr here ↦ ap p (let e : number ≡ first = omega (arith, here, from) in e) ∙ (and_parts (p first) _ all).0
]

-- all pass where each does
pub all-of : (p : ℕ → Bool) (first count : ℕ) → ((number : ℕ) → first ≤ number → number < first + count → p number ≡ true) → list_all p (range_with_len first count) ≡ true
all-of p first zero each = refl
all-of p first (suc count) each =
    and_from (p first) _ (each first (omega arith) (omega arith)) (all-of p (first + 1) count (λ number from below. each number (omega (arith, from)) (omega (arith, below))))

-- one more passes
pub all-more : (p : ℕ → Bool) (count : ℕ) → list_all p (range_with_len 0 count) ≡ true → p count ≡ true → list_all p (range_with_len 0 (count + 1)) ≡ true
all-more p count before here = all-of p 0 (count + 1) (λ number from below. elim (cases_lt number count) [
  | inl low ↦ each-of p 0 count number before (omega arith) (omega (arith, low))
  | inr high ↦ ap p (let e : number ≡ count = omega (arith, high, below) in e) ∙ here
])

-- one that fails
pub one-fails : (p : ℕ → Bool) (count number : ℕ) → number < count → p number ≡ false → list_all p (range_with_len 0 count) ≡ false
one-fails p count number below fails = by (list_all p (range_with_len 0 count)) refl
  where
    by : (b : Bool) → list_all p (range_with_len 0 count) ≡ b → b ≡ false
    by true e = let passes : p number ≡ true = each-of p 0 count number e (omega arith) (omega (arith, below)) in (let wrong : true ≡ false = sym passes ∙ fails in cc)
    by false e = refl

-- ---- lists of numbers

flat-from : (f : ℕ → List Vector) (first count : ℕ) → flat_map f (range_with_len first (suc count)) ≡ flat_map f (range_with_len first count) ++ f (first + count)
flat-from f first zero = append-nil (f first) ∙ ap f (let same : first ≡ first + zero = omega arith in same)
flat-from f first (suc count) =
    ap (λ (rest : List Vector). f first ++ rest) (flat-from f (first + 1) count)
    ∙ sym (append_assoc (f first) (flat_map f (range_with_len (first + 1) count)) (f (first + 1 + count)))
    ∙ ap (λ (n : ℕ). flat_map f (range_with_len first (suc count)) ++ f n) (let same : first + 1 + count ≡ first + suc count = omega arith in same)

-- one list more
pub flat-more : (f : ℕ → List Vector) (count : ℕ) → flat_map f (range_with_len 0 (count + 1)) ≡ flat_map f (range_with_len 0 count) ++ f count
flat-more f count =
    ap (λ (n : ℕ). flat_map f (range_with_len 0 n)) (let e : count + 1 ≡ suc count = omega arith in e)
    ∙ flat-from f 0 count ∙ ap (λ (n : ℕ). flat_map f (range_with_len 0 count) ++ f n) (let e : 0 + count ≡ count = omega arith in e)

-- ---- what is gathered

none-behind : (front : Option (List ℕ)) (last : Option ℕ) → front ≡ None → with_number front last ≡ None
none-behind None None is = refl
none-behind None (Some last) is = refl
none-behind (Some front) last is = cc

-- nothing is gathered past a number that is not there
stays-none : (number : ℕ → Option ℕ) (count more : ℕ) → gathered number count ≡ None → gathered number (count + more) ≡ None
stays-none number count zero none = ap (gathered number) (let e : count + zero ≡ count = omega arith in e) ∙ none
stays-none number count (suc more) none =
    ap (gathered number) (let e : count + suc more ≡ suc (count + more) = omega arith in e)
    ∙ none-behind (gathered number (count + more)) (number (count + more)) (stays-none number count more none)

none-last : (front : Option (List ℕ)) → with_number front None ≡ None
none-last None = refl
none-last (Some front) = refl

pub none-gathered : (number : ℕ → Option ℕ) (place count : ℕ) → place < count → number place ≡ None → gathered number count ≡ None
none-gathered number place count within none =
    ap (gathered number) (let e : count ≡ suc place + (count - suc place) = omega (arith, within) in e)
    ∙ stays-none number (suc place) (count - suc place) (ap (with_number (gathered number place)) none ∙ none-last (gathered number place))

pub one-gathered : (number : ℕ → Option ℕ) (place found : ℕ) (numbers : List ℕ) → gathered number place ≡ Some numbers → number place ≡ Some found → gathered number (place + 1) ≡ Some (numbers ++ found ∷ [])
one-gathered number place found numbers before here =
    ap (gathered number) (let e : place + 1 ≡ suc place = omega arith in e)
    ∙ ap (λ (front : Option (List ℕ)). with_number front (number place)) before ∙ ap (with_number (Some numbers)) here
