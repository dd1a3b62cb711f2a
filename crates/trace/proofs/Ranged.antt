-- The name of a vector, a text and a range behind it, is read as the text with that range.
use Rattle.std.proofs.Common.{◌≡◌, ◌∙◌, refl, ap, ℕ, suc, ◌+◌, ◌-◌, ◌<◌, ◌≤◌, ◌^◌, Bool, true, false, List, [], ◌∷◌, ◌++◌, length, length-append, take, drop, Option, None, Some, append_assoc, arith}
use Rattle.std.specs.Prelude.{◌==◌, cond, nat_le, nat_lt, not, ◌&&◌, decimal, slice_index}
use Rattle.std.specs.List.{list_all, position_from}
use Rattle.std.specs.Option.{option_map, option_and_then}
use Rattle.std.proofs.Math.Seq.{drop-append-add, take-append_seam}
use Rattle.std.proofs.Math.Bool.{and-false}
use Rattle.std.proofs.lemmas.Bool.{and_from, and_parts, cond-false, cond-true, eq-eqb, le-leb, leb-true, lt-leb, lt-ltb, ne_eqb}
use Rattle.std.proofs.lemmas.List.{get_or-append-add}
use Rattle.std.proofs.lemmas.List.Folds.{list_all-append}
use Rattle.psl_base.specs.Bytes.{is_digit}
use Rattle.psl_base.specs.Decimals.{decimal_upto}
use Rattle.psl_tree.specs.Ranges.{index_count}
use Rattle.trace.specs.Vectors.{range_text}
use Rattle.vcd_reader.specs.Ranges.{Reference, index_before_end, index_most, indices_of, last_bracket, pair_of, range_at_end, reference_of, reference_with}
use Rattle.vcd_writer.proofs.Numerals.{form-all, form-digits, form-says}
use Rattle.vcd_writer.proofs.Tokens.{is_solid}

-- ---- numbers

pub number-read : (most number : ℕ) → number ≤ most → number < 2 ^ 64 → decimal_upto most (decimal number) ≡ Some number
number-read most number low small =
    let says = form-says number small in
    cond-true _ _ _ (and_from _ _ (form-digits number small) (le-leb _ _ (omega (arith, says, low)))) ∙ ap Some says

-- ---- the last bracket

abbrev not_bracket : ℕ → Bool
not_bracket byte = not (byte == 91)

digit-parts : (byte : ℕ) → is_digit byte ≡ true → (48 ≤ byte) × (byte ≤ 57)
digit-parts byte is =
    let parts = and_parts (nat_le 48 byte) (nat_le byte 57) is in
    (leb-true 48 byte parts.0, leb-true byte 57 parts.1)

digits-none : (digits : List ℕ) → list_all is_digit digits ≡ true → list_all not_bracket digits ≡ true
digits-none [] each = refl
digits-none (byte ∷ digits) each =
    let parts = and_parts (is_digit byte) _ each in
    let low = (digit-parts byte parts.0).1 in
    and_from (not_bracket byte) _ (ap not (ne_eqb byte 91 (λ same. omega (arith, same, low)))) (digits-none digits parts.1)

no-bracket : (old : Option ℕ) (at : ℕ) (text : List ℕ) → list_all not_bracket text ≡ true → last_bracket old at text ≡ old
no-bracket old at [] none = refl
no-bracket old at (byte ∷ text) none =
    let parts = and_parts (not_bracket byte) _ none in
    ap (λ (found : Option ℕ). last_bracket found (at + 1) text) (by (byte == 91) parts.0) ∙ no-bracket old (at + 1) text parts.1
  where
    by : (b : Bool) → not b ≡ true → cond b (Some at) old ≡ old
    by true e = cc
    by false e = refl

bracket-behind : (old : Option ℕ) (at : ℕ) (text rest : List ℕ) → list_all not_bracket rest ≡ true → last_bracket old at (text ++ 91 ∷ rest) ≡ Some (at + length text)
bracket-behind old at [] rest none = no-bracket (Some at) (at + 1) rest none ∙ ap (λ (n : ℕ). Some n) (let e : at ≡ at + 0 = omega arith in e)
bracket-behind old at (byte ∷ text) rest none =
    bracket-behind (cond (byte == 91) (Some at) old) (at + 1) text rest none ∙ ap (λ (n : ℕ). Some n) (let e : at + 1 + length text ≡ at + suc (length text) = omega arith in e)

-- ---- the indices

colon-behind : (at : ℕ) (digits rest : List ℕ) → list_all is_digit digits ≡ true → position_from (λ byte. byte == 58) at (digits ++ 58 ∷ rest) ≡ Some (at + length digits)
colon-behind at [] rest each = ap (λ (n : ℕ). Some n) (let e : at ≡ at + 0 = omega arith in e)
colon-behind at (byte ∷ digits) rest each =
    let parts = and_parts (is_digit byte) _ each in
    let low = (digit-parts byte parts.0).1 in
    cond-false (byte == 58) _ _ (ne_eqb byte 58 (λ same. omega (arith, same, low)))
    ∙ colon-behind (at + 1) digits rest parts.1 ∙ ap (λ (n : ℕ). Some n) (let e : at + 1 + length digits ≡ at + suc (length digits) = omega arith in e)

index-ends : (digits : List ℕ) → index_before_end (digits ++ 93 ∷ []) ≡ decimal_upto index_most digits
index-ends digits =
    let text = digits ++ 93 ∷ [] in
    let long = length-append digits (93 ∷ []) in
    let last : length text - 1 ≡ length digits + 0 = omega (arith, long) in
    let front : length text - 1 ≡ length digits = omega (arith, long) in
    cond-true (nat_lt 0 (length text) && (slice_index text (length text - 1) == 93)) _ _
    (and_from _ _ (lt-ltb 0 (length text) (omega (arith, long)))
    (eq-eqb (slice_index text (length text - 1)) 93 (ap (slice_index text) last ∙ get_or-append-add digits (93 ∷ []) 0 0)))
    ∙ ap (decimal_upto index_most) (ap (λ (n : ℕ). take n text) front ∙ take-append_seam digits (93 ∷ []))

-- the bytes behind the bracket
abbrev inside : ℕ → ℕ → List ℕ
inside high low = decimal high ++ 58 ∷ (decimal low ++ 93 ∷ [])

indices-read : (high low : ℕ) → high ≤ index_most → low ≤ index_most → indices_of (inside high low) ≡ Some (high, low)
indices-read high low fits also =
    let small : high < 2 ^ 64 = omega (arith, fits) in
    let little : low < 2 ^ 64 = omega (arith, also) in
    let digits = decimal high in
    let rest = decimal low ++ 93 ∷ [] in
    let colon : position_from (λ byte. byte == 58) 0 (inside high low) ≡ Some (length digits) = colon-behind 0 digits rest (form-all high small) ∙ ap (λ (n : ℕ). Some n) (let e : 0 + length digits ≡ length digits = omega arith in e) in
    ap (option_and_then (λ (at : ℕ). pair_of (decimal_upto index_most (take at (inside high low))) (index_before_end (drop (at + 1) (inside high low))))) colon
    ∙ ap (λ (text : List ℕ). pair_of (decimal_upto index_most text) (index_before_end (drop (length digits + 1) (inside high low)))) (take-append_seam digits (58 ∷ rest))
    ∙ ap (λ (text : List ℕ). pair_of (decimal_upto index_most digits) (index_before_end text)) (drop-append-add digits (58 ∷ rest) 1)
    ∙ ap (λ (left : Option ℕ). pair_of left (index_before_end rest)) (number-read index_most high fits small)
    ∙ ap (pair_of (Some high)) (index-ends (decimal low) ∙ number-read index_most low also little)

regroup : (high low : ℕ) → range_text high low ≡ 91 ∷ inside high low
regroup high low =
    ap (λ (rest : List ℕ). 91 ∷ rest)
    (append_assoc (decimal high ++ 58 ∷ []) (decimal low) (93 ∷ []) ∙ append_assoc (decimal high) (58 ∷ []) (decimal low ++ 93 ∷ []))

-- digits, a colon, digits and a bracket
all-of : (p : ℕ → Bool) (high low : ℕ) → list_all p (decimal high) ≡ true → list_all p (decimal low) ≡ true → p 58 ≡ true → p 93 ≡ true → list_all p (inside high low) ≡ true
all-of p high low one two colon bracket =
    list_all-append p (decimal high) (58 ∷ (decimal low ++ 93 ∷ []))
    ∙ and_from (list_all p (decimal high)) _ one
    (and_from (p 58) _ colon (list_all-append p (decimal low) (93 ∷ []) ∙ and_from (list_all p (decimal low)) _ two (and_from (p 93) true bracket refl)))

-- ---- the reference

-- a text with a range
abbrev pub ranged : List ℕ → ℕ → ℕ → Reference
ranged text high low = record { text = text; left = high; right = low }

range-found : (text : List ℕ) (high low : ℕ) → high ≤ index_most → low ≤ index_most → range_at_end (text ++ 91 ∷ inside high low) ≡ Some (length text, (high, low))
range-found text high low fits also =
    let whole = text ++ 91 ∷ inside high low in
    let small : high < 2 ^ 64 = omega (arith, fits) in
    let little : low < 2 ^ 64 = omega (arith, also) in
    let bracket : last_bracket None 0 whole ≡ Some (length text) =
    bracket-behind None 0 text (inside high low) (all-of not_bracket high low (digits-none (decimal high) (form-all high small)) (digits-none (decimal low) (form-all low little)) refl refl)
    ∙ ap (λ (n : ℕ). Some n) (let e : 0 + length text ≡ length text = omega arith in e) in
    ap (option_and_then {U = ℕ × (ℕ × ℕ)} (λ (at : ℕ). option_map {U = ℕ × (ℕ × ℕ)} (λ (range : ℕ × ℕ). (at, range)) (indices_of (drop (at + 1) whole)))) bracket
    ∙ ap (λ (rest : List ℕ). option_map {U = ℕ × (ℕ × ℕ)} (λ (range : ℕ × ℕ). (length text, range)) (indices_of rest)) (drop-append-add text (91 ∷ inside high low) 1)
    ∙ ap (option_map {U = ℕ × (ℕ × ℕ)} (λ (range : ℕ × ℕ). (length text, range))) (indices-read high low fits also)

pub range-read : (text : List ℕ) (high low size : ℕ) → low < high → high ≤ index_most → size ≡ high - low + 1 → reference_of (text ++ range_text high low) size ≡ ranged text high low
range-read text high low size falls fits each =
    ap (λ (range : List ℕ). reference_of (text ++ range) size) (regroup high low)
    ∙ ap (reference_with (text ++ 91 ∷ inside high low) size) (range-found text high low fits (omega (arith, falls, fits)))
    ∙ cond-true (index_count high low == size) _ _ (eq-eqb (index_count high low) size (omega (arith, falls, each)))
    ∙ ap (λ (t : List ℕ). ranged t high low) (take-append_seam text (91 ∷ inside high low))

-- ---- its bytes

digit-solid : (byte : ℕ) → is_digit byte ≡ true → is_solid byte ≡ true
digit-solid byte is =
    let above = (digit-parts byte is).0 in
    rw (lt-leb byte 13 (omega (arith, above)), ne_eqb byte 32 (λ same. omega (arith, above, same)), and-false (nat_le 9 byte)) refl

pub each-solid : (text : List ℕ) → list_all is_digit text ≡ true → list_all is_solid text ≡ true
each-solid [] each = refl
each-solid (byte ∷ bytes) each =
    let parts = and_parts (is_digit byte) _ each in
    and_from (is_solid byte) (list_all is_solid bytes) (digit-solid byte parts.0) (each-solid bytes parts.1)

pub range-solid : (high low : ℕ) → high < 2 ^ 64 → low < 2 ^ 64 → list_all is_solid (range_text high low) ≡ true
range-solid high low small little =
    ap (list_all is_solid) (regroup high low)
    ∙ all-of is_solid high low (each-solid (decimal high) (form-all high small)) (each-solid (decimal low) (form-all low little)) refl refl

pub range-some : (high low : ℕ) → 0 < length (range_text high low)
range-some high low = omega (arith, ap (λ (t : List ℕ). length t) (regroup high low))
