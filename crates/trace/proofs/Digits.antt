-- Codes: one step of their digits, which numbers they are of, and where each stands among the codes.
use Rattle.std.proofs.Common.{◌≡◌, ◌∙◌, refl, sym, ap, ℕ, zero, suc, ◌+◌, ◌-◌, ◌*◌, ◌/◌, ◌%◌, ◌<◌, ◌≤◌, ◌^◌, Bool, true, false, List, [], ◌∷◌, length, map, None, Some, arith, inl, inr}
use Rattle.std.specs.Prelude.{◌==◌, cond, nat_le, ◌&&◌}
use Rattle.std.specs.List.{list_all, position_from, range_with_len}
use Rattle.std.specs.Str.{bytes_eq}
use Rattle.std.proofs.lemmas.Bool.{and_from, cases_lt, cond-true, cond-false, eq-eqb, ne_eqb, le-leb, lt-leb}
use Rattle.std.proofs.Math.Bool.{and-false}
use Rattle.std.proofs.lemmas.Slice.Eq.{bytes_eq-Decides}
use Rattle.trace.specs.Codes.{digits_of, code_of, codes_of}
use Rattle.vcd_reader.specs.Labels.{is_code, place_of}
use Rattle.vcd_writer.proofs.Tokens.{is_solid}

-- ---- the digits

digits-last : (most number : ℕ) → number < 94 → digits_of (suc most) number ≡ (33 + number) ∷ []
digits-last most number low =
    cond-end (number / 94 == 0) (eq-eqb (number / 94) 0 (omega arith)) ∙ ap (λ (n : ℕ). (33 + n) ∷ []) (let same : number % 94 ≡ number = omega arith in same)
  where
    cond-end : (b : Bool) → b ≡ true → (33 + number % 94) ∷ cond b [] (digits_of most (number / 94)) ≡ (33 + number % 94) ∷ []
    cond-end b e = ap (λ (t : Bool). (33 + number % 94) ∷ cond t [] (digits_of most (number / 94))) e

digits-next : (most number : ℕ) → 94 ≤ number → digits_of (suc most) number ≡ (33 + number % 94) ∷ digits_of most (number / 94)
digits-next most number high =
    ap (λ (t : Bool). (33 + number % 94) ∷ cond t [] (digits_of most (number / 94))) (ne_eqb (number / 94) 0 (λ e. omega arith))

-- more digits than are needed change nothing
enough : (j k number : ℕ) → number < 94 ^ suc j → number < 94 ^ suc k → digits_of (suc j) number ≡ digits_of (suc k) number
enough zero k number p q = digits-last zero number (omega arith) ∙ sym (digits-last k number (omega arith))
enough (suc j) zero number p q = digits-last (suc j) number (omega arith) ∙ sym (digits-last zero number (omega arith))
enough (suc j) (suc k) number p q = elim (cases_lt number 94) [
  | inl low ↦ digits-last (suc j) number low ∙ sym (digits-last (suc k) number low)
  | inr high ↦ digits-next (suc j) number high ∙ ap (λ (ds : List ℕ). (33 + number % 94) ∷ ds) (enough j k (number / 94) (omega arith) (omega arith)) ∙ sym (digits-next (suc k) number high)
]

pub code-last : (number : ℕ) → number < 94 → code_of number ≡ (33 + number) ∷ []
code-last number low = digits-last 9 number low

pub code-next : (number : ℕ) → 94 ≤ number → number < 2 ^ 64 → code_of number ≡ (33 + number % 94) ∷ code_of (number / 94)
code-next number high small = digits-next 9 number high ∙ ap (λ (ds : List ℕ). (33 + number % 94) ∷ ds) (enough 8 9 (number / 94) (omega arith) (omega arith))

-- ---- which number digits are of

value_of : List ℕ → ℕ
value_of [] = 0
value_of (byte ∷ bytes) = (byte - 33) + 94 * value_of bytes

value-digits : (most number : ℕ) → number < 94 ^ most → value_of (digits_of most number) ≡ number
unfolding value_of
value-digits zero number small = omega (arith, small)
value-digits (suc most) number small = elim (cases_lt number 94) [
  | inl low ↦ ap value_of (digits-last most number low) ∙ (let same : (33 + number - 33) + 94 * 0 ≡ number = omega arith in same)
  | inr high ↦
      let rest = value-digits most (number / 94) (omega arith) in
      ap value_of (digits-next most number high)
      ∙ (let same : (33 + number % 94 - 33) + 94 * value_of (digits_of most (number / 94)) ≡ number = omega (arith, rest) in same)
]

value-code : (number : ℕ) → number < 2 ^ 64 → value_of (code_of number) ≡ number
value-code number small = value-digits 10 number (omega arith)

pub code-injective : (left right : ℕ) → left < 2 ^ 64 → right < 2 ^ 64 → code_of left ≡ code_of right → left ≡ right
code-injective left right one two same = sym (value-code left one) ∙ ap value_of same ∙ value-code right two

-- `$end` is the code of a signal past a million
pub no-end : (number : ℕ) → number < 56_335_895 → code_of number ≡ 36 ∷ 101 ∷ 110 ∷ 100 ∷ [] → ⊥
unfolding value_of
no-end number few same =
    let is : number ≡ 56_335_895 = sym (value-code number (omega (arith, few))) ∙ ap value_of same in
    omega (arith, few, is)

-- ---- its bytes

pub some-byte : (number : ℕ) → 0 < length (code_of number)
some-byte number = omega arith

code-rest : (b : Bool) (rest : List ℕ) → is_code rest ≡ true → is_code (cond b [] rest) ≡ true
code-rest true rest is = refl
code-rest false rest is = is

pub digits-are-code : (most number : ℕ) → is_code (digits_of most number) ≡ true
digits-are-code zero number = refl
digits-are-code (suc most) number =
    let byte : (nat_le 33 (33 + number % 94) && nat_le (33 + number % 94) 126) ≡ true = and_from _ _ (le-leb 33 (33 + number % 94) (omega arith)) (le-leb (33 + number % 94) 126 (omega arith)) in
    and_from _ _ byte (code-rest (number / 94 == 0) (digits_of most (number / 94)) (digits-are-code most (number / 94)))

solid-rest : (b : Bool) (rest : List ℕ) → list_all is_solid rest ≡ true → list_all is_solid (cond b [] rest) ≡ true
solid-rest true rest is = refl
solid-rest false rest is = is

solid-digit : (digit : ℕ) → is_solid (33 + digit) ≡ true
solid-digit digit = rw (lt-leb (33 + digit) 13 (omega arith), ne_eqb (33 + digit) 32 (λ same. omega (arith, same)), and-false (nat_le 9 (33 + digit))) refl

pub digits-solid : (most number : ℕ) → list_all is_solid (digits_of most number) ≡ true
digits-solid zero number = refl
digits-solid (suc most) number =
    and_from _ _ (solid-digit (number % 94)) (solid-rest (number / 94 == 0) (digits_of most (number / 94)) (digits-solid most (number / 94)))

-- ---- where they stand

differ : (left right : ℕ) → left < 2 ^ 64 → right < 2 ^ 64 → (left ≡ right → ⊥) → bytes_eq (code_of left) (code_of right) ≡ false
differ left right one two other = by (bytes_eq (code_of left) (code_of right)) refl
  where
    by : (b : Bool) → bytes_eq (code_of left) (code_of right) ≡ b → b ≡ false
    by true e = absurd (other (code-injective left right one two ((bytes_eq-Decides (code_of left) (code_of right)).0 e)))
    by false e = refl

found-at : (at first count gap signal : ℕ) → first + gap ≡ signal → gap < count → signal < 2 ^ 64
    → position_from (λ other. bytes_eq (code_of signal) other) at (map code_of (range_with_len first count)) ≡ Some (at + gap)
found-at at first zero gap signal is within small = absurd (omega arith)
found-at at first (suc count) zero signal is within small =
    let same : signal ≡ first = omega (arith, is) in
    cond-true (bytes_eq (code_of signal) (code_of first)) _ _ ((bytes_eq-Decides (code_of signal) (code_of first)).1 (ap code_of same))
    ∙ ap (λ (n : ℕ). Some n) (let e : at ≡ at + zero = omega arith in e)
found-at at first (suc count) (suc gap) signal is within small =
    cond-false (bytes_eq (code_of signal) (code_of first)) _ _ (differ signal first small (omega (arith, is, small)) (λ same. omega (arith, is, same)))
    ∙ found-at (at + 1) (first + 1) count gap signal (omega (arith, is)) (omega arith) small
    ∙ ap (λ (n : ℕ). Some n) (let e : at + 1 + gap ≡ at + suc gap = omega arith in e)

none-at : (at first count signal : ℕ) → first + count ≤ signal → signal < 2 ^ 64
    → position_from (λ other. bytes_eq (code_of signal) other) at (map code_of (range_with_len first count)) ≡ None
none-at at first zero signal past small = refl
none-at at first (suc count) signal past small =
    cond-false (bytes_eq (code_of signal) (code_of first)) _ _ (differ signal first small (omega (arith, past, small)) (λ same. omega (arith, past, same)))
    ∙ none-at (at + 1) (first + 1) count signal (omega (arith, past)) small

pub code-found : (signals signal : ℕ) → signal < signals → signals < 2 ^ 64 → place_of (codes_of signals) (code_of signal) ≡ Some signal
code-found signals signal within small = found-at 0 0 signals signal signal (omega arith) within (omega arith) ∙ ap (λ (n : ℕ). Some n) (let e : 0 + signal ≡ signal = omega arith in e)

pub code-new : (signals : ℕ) → signals < 2 ^ 64 → place_of (codes_of signals) (code_of signals) ≡ None
code-new signals small = none-at 0 0 signals signals (omega arith) small
