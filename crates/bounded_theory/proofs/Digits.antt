-- Binary digits.
use Rattle.std.proofs.Common.{◌≡◌, ℕ, zero, suc, ◌+◌, ◌*◌, ◌/◌, ◌^◌, ◌<◌, ◌≤◌, inl, inr, Bool, true, false, List, [], ◌∷◌, map, length, get_or, refl, sym, ap, ◌∙◌, arith, pow-suc}
use Rattle.std.specs.Prelude.{◌==◌, if◌then◌else◌}
use Rattle.std.proofs.lemmas.Bool.{cases_lt, eq-eqb, ne_eqb, false≢true}
use Rattle.clauses.specs.Models.{Assignment, is_true}
use Rattle.gates_theory.specs.Distinct.{following}
use Rattle.alternating_theory.proofs.Reached.{same-number}
use Rattle.bounded_theory.specs.Digits.{digits_within, number_width}

-- a number is below the power of two of as many digits as it has
half_below : (most x : ℕ) → x ≤ suc most → 0 < x → x / 2 ≤ most
half_below most x few some = omega arith

double : (x power : ℕ) → x / 2 < power → x < power * 2
double x power low = omega arith

digits-hold : (most x : ℕ) → x ≤ most → x < 2 ^ digits_within most x
digits-hold zero x few = omega arith
digits-hold (suc most) x few = at (x == 0) refl (λ some. digits-hold most (x / 2) (half_below most x few some))
  where
    some_of : (x == 0) ≡ false → 0 < x
    some_of e = elim (cases_lt 0 x) [ inl low ↦ low | inr high ↦ absurd (false≢true (sym e ∙ eq-eqb x 0 (omega arith))) ]

    at : (b : Bool) → (x == 0) ≡ b → (0 < x → x / 2 < 2 ^ digits_within most (x / 2))
        → x < 2 ^ (if b then 0 else suc (digits_within most (x / 2)))
    at true e rest = let low : x ≡ 0 = same-number x 0 e in omega (arith, low)
    at false e rest = rw pow-suc (double x (2 ^ digits_within most (x / 2)) (rest (some_of e)))

pub width-holds : (m x : ℕ) → x ≤ m → x < 2 ^ number_width m
width-holds m x few = let e = digits-hold m m (omega arith) in omega (arith, e)

-- a number below a power of two has no more digits than the exponent
digits-few : (k most x : ℕ) → x < 2 ^ k → digits_within most x ≤ k
digits-few k zero x low = omega arith
digits-few zero (suc most) x low = let e : x ≡ 0 = omega arith in rw (eq-eqb x 0 e) (omega arith)
digits-few (suc k) (suc most) x low = by (x == 0) (digits-few k most (x / 2) (half (rw pow-suc at low)))
  where
    half : x < 2 ^ k * 2 → x / 2 < 2 ^ k
    half h = omega arith

    by : (b : Bool) → digits_within most (x / 2) ≤ k → (if b then 0 else suc (digits_within most (x / 2))) ≤ suc k
    by true h = omega arith
    by false h = omega arith

pub width-few : (m : ℕ) → m ≤ 2048 → number_width m ≤ 12
width-few m few = digits-few 12 m m (omega arith)

-- looking for more digits than there may be finds no more
pub digits-same : (few more x : ℕ) → x ≤ few → few ≤ more → digits_within more x ≡ digits_within few x
digits-same few zero x low high = let e : few ≡ 0 = omega arith in ap (λ k. digits_within k x) (sym e)
digits-same zero (suc more) x low high = let e : x ≡ 0 = omega arith in rw (eq-eqb x 0 e) refl
digits-same (suc few) (suc more) x low high = by (x == 0) refl (λ some. digits-same few more (x / 2) (half_below few x low some) (omega arith))
  where
    some_of : (x == 0) ≡ false → 0 < x
    some_of e = elim (cases_lt 0 x) [ inl some ↦ some | inr none ↦ absurd (false≢true (sym e ∙ eq-eqb x 0 (omega arith))) ]

    by : (b : Bool) → (x == 0) ≡ b → (0 < x → digits_within more (x / 2) ≡ digits_within few (x / 2))
        → (if b then 0 else suc (digits_within more (x / 2))) ≡ (if b then 0 else suc (digits_within few (x / 2)))
    by true e rest = refl
    by false e rest = ap suc (rest (some_of e))

pub width-next : (x : ℕ) → 0 < x → number_width x ≡ suc (number_width (x / 2))
width-next zero some = absurd (omega arith)
width-next (suc x) some =
    rw (ne_eqb (suc x) 0 (λ e. omega arith)) (ap suc (digits-same (suc x / 2) x (suc x / 2) (omega arith) (half_below x (suc x) (omega arith) (omega arith))))

pub width-most : (x : ℕ) → x < 2 ^ 32 → number_width x ≤ 32
width-most x low = digits-few 32 x x low

-- the values of bits that are those of a list
pub bits-list : (v : Assignment) (count low : ℕ) (bits : List Bool) → length bits ≡ count → ((k : ℕ) → k < count → v (suc (low + k)) ≡ get_or bits k false)
    → map (is_true v) (following low count) ≡ bits
bits-list v zero low [] size each = refl
bits-list v zero low (bit ∷ bits) size each = absurd (omega arith)
bits-list v (suc count) low [] size each = absurd (omega arith)
bits-list v (suc count) low (bit ∷ bits) size each =
    let first : v (suc low) ≡ bit = ap (λ n. v (suc n)) (omega arith) ∙ each 0 (omega arith) in
    let rest = bits-list v count (suc low) bits (omega arith) (λ k below. ap (λ n. v (suc n)) (omega arith) ∙ each (suc k) (omega arith)) in
    rw (first, rest)
