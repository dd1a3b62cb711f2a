-- A printed name is read as that of a signal of one bit, whole.
use Rattle.std.proofs.Common.{◌≡◌, ◌∙◌, refl, sym, ap, ℕ, zero, suc, ◌+◌, ◌-◌, ◌*◌, ◌<◌, ◌≤◌, ◌^◌, Bool, true, false, List, [], ◌∷◌, ◌++◌, length, length-append, take, drop, get_or, Option, None, Some, arith, ◌⊎◌, inl, inr}
use Rattle.std.specs.Prelude.{◌==◌, cond, nat_le, nat_lt, ◌&&◌, ◌||◌, decimal, slice_index}
use Rattle.std.proofs.lemmas.List.{get_or-append-add}
use Rattle.std.specs.List.{list_all, position_from}
use Rattle.std.specs.Option.{option_map, option_and_then}
use Rattle.std.proofs.lemmas.Bool.{and_from, and_parts, cond-false, eq-eqb, eqb-true, ne_eqb, leb-true, true≢false, false≢true}
use Rattle.std.proofs.Math.Bool.{and-false}
use Rattle.std.proofs.lemmas.Fmt.{decimal-digits_value, decimal_digit}
use Rattle.std.proofs.lemmas.Slice.Eq.{bytes_eq-Decides}
use Rattle.psl_base.specs.Bytes.{is_digit}
use Rattle.psl_base.specs.Decimals.{are_digits, number_after, decimal_upto}
use Rattle.psl_tree.specs.Ranges.{index_count}
use Rattle.trace.specs.Printed.{significant, are_one_number, before_end, is_one_index, ends_at, ends_in_one_index, printed}
use Rattle.vcd_reader.specs.Ranges.{last_bracket, pair_of, index_before_end, indices_of, index_most, range_at_end, Reference, reference_with, reference_of}
use Rattle.vcd_reader.specs.Shapes.{is_end}
use Rattle.vcd_writer.proofs.Numerals.{numerals}
use Rattle.vcd_writer.proofs.Tokens.{is_solid}

-- ---- equal numbers have the same digits

Leads : List ℕ → Type 0
Leads digits = (digits ≡ []) ⊎ ((0 < length digits) × (get_or digits 0 0 ≡ 48 → ⊥))

lead-by : (b : Bool) (digit : ℕ) (digits : List ℕ) → (digit == 48) ≡ b → Leads (significant digits) → Leads (cond b (significant digits) (digit ∷ digits))
unfolding Leads
lead-by true digit digits e rest = rest
lead-by false digit digits e rest = inr (omega arith, λ same. absurd (true≢false (sym (eq-eqb digit 48 same) ∙ e)))

lead : (digits : List ℕ) → Leads (significant digits)
unfolding Leads
lead [] = inl refl
lead (digit ∷ digits) = lead-by (digit == 48) digit digits refl (lead digits)

by-lead : (digits : List ℕ) → (significant digits ≡ []) ⊎ ((0 < length (significant digits)) × (get_or (significant digits) 0 0 ≡ 48 → ⊥))
unfolding Leads
by-lead digits = lead digits

digits-by : (b : Bool) (left right : List ℕ) → list_all is_digit left ≡ true → list_all is_digit right ≡ true → list_all is_digit (cond b left right) ≡ true
digits-by true left right one two = one
digits-by false left right one two = two

significant-digits : (digits : List ℕ) → list_all is_digit digits ≡ true → list_all is_digit (significant digits) ≡ true
significant-digits [] each = refl
significant-digits (digit ∷ digits) each =
    digits-by (digit == 48) (significant digits) (digit ∷ digits) (significant-digits digits (and_parts (is_digit digit) (list_all is_digit digits) each).1) each

value-by : (b : Bool) (digit : ℕ) (digits : List ℕ) → (digit == 48) ≡ b → number_after 0 (significant digits) ≡ number_after 0 digits
    → number_after 0 (cond b (significant digits) (digit ∷ digits)) ≡ number_after 0 (digit ∷ digits)
value-by true digit digits e rest = rest ∙ ap (λ (n : ℕ). number_after n digits) (let same = eqb-true digit 48 e in let zero' : 0 ≡ 0 * 10 + (digit - 48) = omega (arith, same) in zero')
value-by false digit digits e rest = refl

significant-value : (digits : List ℕ) → number_after 0 (significant digits) ≡ number_after 0 digits
significant-value [] = refl
significant-value (digit ∷ digits) = value-by (digit == 48) digit digits refl (significant-value digits)

-- digits that no zero leads are those of their number
plain-digits : (digits : List ℕ) → list_all is_digit digits ≡ true → 0 < length digits → (get_or digits 0 0 ≡ 48 → ⊥) → number_after 0 digits < 2 ^ 64 → decimal (number_after 0 digits) ≡ digits
plain-digits digits each some first small = decimal-digits_value numerals digits each some (λ zero'. absurd (first zero')) small

-- digits of 0 that no zero leads are none
no-plain-zero : (digits : List ℕ) → list_all is_digit digits ≡ true → 0 < length digits → (get_or digits 0 0 ≡ 48 → ⊥) → number_after 0 digits ≡ 0 → ⊥
no-plain-zero digits each some first none =
    first (ap (λ (ds : List ℕ). get_or ds 0 0) (sym (plain-digits digits each some first (omega (arith, none))) ∙ ap decimal none ∙ decimal_digit 0 (omega arith)))

same-significant : (left right : List ℕ) → list_all is_digit left ≡ true → list_all is_digit right ≡ true → number_after 0 left ≡ number_after 0 right → number_after 0 right < 2 ^ 64
    → significant left ≡ significant right
same-significant left right one two same small =
    let left_value = significant-value left in
    let right_value = significant-value right in
    let left_digits = significant-digits left one in
    let right_digits = significant-digits right two in
    elim (by-lead left) [
      | inl none ↦ elim (by-lead right) [
        | inl nothing ↦ none ∙ sym nothing
        | inr some ↦ absurd (no-plain-zero (significant right) right_digits some.0 some.1 (right_value ∙ sym same ∙ sym left_value ∙ ap (number_after 0) none))
      ]
      | inr any ↦ elim (by-lead right) [
        | inl nothing ↦ absurd (no-plain-zero (significant left) left_digits any.0 any.1 (left_value ∙ same ∙ sym right_value ∙ ap (number_after 0) nothing))
        | inr some ↦
            sym (plain-digits (significant left) left_digits any.0 any.1 (omega (arith, left_value, same, small)))
            ∙ ap decimal (left_value ∙ same ∙ sym right_value)
            ∙ plain-digits (significant right) right_digits some.0 some.1 (omega (arith, right_value, small))
      ]
    ]

-- ---- a range of one index that is read is one that is marked

record IsDecimal (text : List ℕ) (number : ℕ) : Type 0 where
  digits : are_digits text ≡ true
  value : number_after 0 text ≡ number
  within : number ≤ index_most

decimal-parts : (text : List ℕ) (number : ℕ) → decimal_upto index_most text ≡ Some number → IsDecimal text number
decimal-parts text number is = by (are_digits text) (nat_le (number_after 0 text) index_most) refl refl is
  where
    by : (a b : Bool) → are_digits text ≡ a → nat_le (number_after 0 text) index_most ≡ b → cond (a && b) (Some (number_after 0 text)) None ≡ Some number → IsDecimal text number
    by true true one two e =
        let same : number_after 0 text ≡ number = cc in
        record { digits = one; value = same; within = omega (arith, same, leb-true (number_after 0 text) index_most two) }
    by true false one two e = cc
    by false b one two e = cc

each-digit : (text : List ℕ) → are_digits text ≡ true → list_all is_digit text ≡ true
each-digit [] some = absurd (false≢true some)
each-digit (byte ∷ bytes) some = some

end-digits : (text : List ℕ) (number : ℕ) → index_before_end text ≡ Some number → decimal_upto index_most (before_end text) ≡ Some number
end-digits text number is = by (nat_lt 0 (length text) && (slice_index text (length text - 1) == 93)) is
  where
    by : (b : Bool) → cond b (decimal_upto index_most (take (length text - 1) text)) None ≡ Some number → decimal_upto index_most (cond b (take (length text - 1) text) []) ≡ Some number
    by true e = e
    by false e = cc

pair-parts : (left right : Option ℕ) (l r : ℕ) → pair_of left right ≡ Some (l, r) → (left ≡ Some l) × (right ≡ Some r)
pair-parts None right l r is = cc
pair-parts (Some left) None l r is = cc
pair-parts (Some left) (Some right) l r is =
    let same : (left, right) ≡ (l, r) = cc in
    (ap (λ (n : ℕ). Some n) (ap (λ (p : ℕ × ℕ). p.0) same), ap (λ (n : ℕ). Some n) (ap (λ (p : ℕ × ℕ). p.1) same))

one-number : (left right : List ℕ) (l r : ℕ) → IsDecimal left l → IsDecimal right r → l ≡ r → are_one_number left right ≡ true
one-number left right l r one two same =
    let equal : significant left ≡ significant right = same-significant left right (each-digit left one.digits) (each-digit right two.digits) (one.value ∙ same ∙ sym two.value) (let v = two.value in let w = two.within in omega (arith, v, w)) in
    and_from (are_digits left) _ one.digits (and_from (are_digits right) _ two.digits ((bytes_eq-Decides (significant left) (significant right)).1 equal))

one-index : (text : List ℕ) (colon : Option ℕ) (l r : ℕ)
    → option_and_then (λ (at : ℕ). pair_of (decimal_upto index_most (take at text)) (index_before_end (drop (at + 1) text))) colon ≡ Some (l, r) → l ≡ r → is_one_index text colon ≡ true
one-index text None l r is same = cc
one-index text (Some at) l r is same =
    let parts = pair-parts (decimal_upto index_most (take at text)) (index_before_end (drop (at + 1) text)) l r is in
    one-number (take at text) (before_end (drop (at + 1) text)) l r (decimal-parts (take at text) l parts.0)
    (decimal-parts (before_end (drop (at + 1) text)) r (end-digits (drop (at + 1) text) r parts.1)) same

behind-bracket : (at : ℕ) (range : Option (ℕ × ℕ)) (found l r : ℕ) → option_map {U = ℕ × (ℕ × ℕ)} (λ (pair : ℕ × ℕ). (at, pair)) range ≡ Some (found, (l, r)) → range ≡ Some (l, r)
behind-bracket at None found l r is = cc
behind-bracket at (Some pair) found l r is =
    let same : (at, pair) ≡ (found, (l, r)) = cc in
    ap (λ (p : ℕ × ℕ). Some p) (ap (λ (p : ℕ × (ℕ × ℕ)). p.1) same)

ends-marked : (text : List ℕ) (bracket : Option ℕ) (found l r : ℕ)
    → option_and_then {U = ℕ × (ℕ × ℕ)} (λ (at : ℕ). option_map {U = ℕ × (ℕ × ℕ)} (λ (range : ℕ × ℕ). (at, range)) (indices_of (drop (at + 1) text))) bracket ≡ Some (found, (l, r)) → l ≡ r → ends_at text bracket ≡ true
ends-marked text None found l r is same = cc
ends-marked text (Some at) found l r is same =
    one-index (drop (at + 1) text) (position_from (λ byte. byte == 58) 0 (drop (at + 1) text)) l r (behind-bracket at (indices_of (drop (at + 1) text)) found l r is) same

-- ---- behind `_` no range is read

-- what is left of a name and `_`
data Left : List ℕ → Type 0 where
  nothing : Left []
  marked : (rest : List ℕ) → Left (rest ++ 95 ∷ [])

left-of : (name : List ℕ) (count : ℕ) → Left (drop count (name ++ 95 ∷ []))
left-of [] zero = marked []
left-of [] (suc zero) = nothing
left-of [] (suc (suc count)) = nothing
left-of (byte ∷ name) zero = marked (byte ∷ name)
left-of (byte ∷ name) (suc count) = left-of name count

last-byte : (name : List ℕ) → slice_index (name ++ 95 ∷ []) (length (name ++ 95 ∷ []) - 1) ≡ 95
last-byte name =
    ap (slice_index (name ++ 95 ∷ [])) (let last : length (name ++ 95 ∷ []) - 1 ≡ length name + 0 = omega (arith, length-append name (95 ∷ [])) in last)
    ∙ get_or-append-add name (95 ∷ []) 0 0

no-index : (text : List ℕ) → Left text → index_before_end text ≡ None
no-index text nothing = refl
no-index text (marked name) =
    cond-false (nat_lt 0 (length (name ++ 95 ∷ [])) && (slice_index (name ++ 95 ∷ []) (length (name ++ 95 ∷ []) - 1) == 93)) _ _
    (ap (λ (b : Bool). nat_lt 0 (length (name ++ 95 ∷ [])) && b) (ne_eqb (slice_index (name ++ 95 ∷ []) (length (name ++ 95 ∷ []) - 1)) 93 (λ same. omega (arith, same, last-byte name))) ∙ and-false (nat_lt 0 (length (name ++ 95 ∷ []))))

no-pair : (left : Option ℕ) → pair_of left None ≡ None
no-pair None = refl
no-pair (Some left) = refl

no-indices : (text : List ℕ) (colon : Option ℕ) → ((at : ℕ) → Left (drop at text))
    → option_and_then (λ (at : ℕ). pair_of (decimal_upto index_most (take at text)) (index_before_end (drop (at + 1) text))) colon ≡ None
no-indices text None each = refl
no-indices text (Some at) each = ap (pair_of (decimal_upto index_most (take at text))) (no-index (drop (at + 1) text) (each (at + 1))) ∙ no-pair (decimal_upto index_most (take at text))

left-again : (text : List ℕ) → Left text → (at : ℕ) → Left (drop at text)
left-again text nothing zero = nothing
left-again text nothing (suc at) = nothing
left-again text (marked name) at = left-of name at

no-range : (name : List ℕ) (bracket : Option ℕ)
    → option_and_then {U = ℕ × (ℕ × ℕ)} (λ (at : ℕ). option_map {U = ℕ × (ℕ × ℕ)} (λ (range : ℕ × ℕ). (at, range)) (indices_of (drop (at + 1) (name ++ 95 ∷ [])))) bracket ≡ None
no-range name None = refl
no-range name (Some at) =
    let text = drop (at + 1) (name ++ 95 ∷ []) in
    ap (option_map {U = ℕ × (ℕ × ℕ)} (λ (range : ℕ × ℕ). (at, range))) (no-indices text (position_from (λ byte. byte == 58) 0 text) (left-again text (left-of name (at + 1))))

-- ---- the reference

-- a text, and the range of a signal of one bit
abbrev pub whole_of : List ℕ → Reference
whole_of text = record { text = text; left = 0; right = 0 }

marked-whole : (name : List ℕ) → reference_of (name ++ 95 ∷ []) 1 ≡ whole_of (name ++ 95 ∷ [])
marked-whole name = ap (reference_with (name ++ 95 ∷ []) 1) (no-range name (last_bracket None 0 (name ++ 95 ∷ [])))

plain-whole : (name : List ℕ) → ends_in_one_index name ≡ false → reference_of name 1 ≡ whole_of name
plain-whole name none = by (range_at_end name) refl
  where
    by : (range : Option (ℕ × (ℕ × ℕ))) → range_at_end name ≡ range → reference_with name 1 range ≡ whole_of name
    by None e = refl
    by (Some (at, (l, r))) e = cond-false (index_count l r == 1) _ _ (ne_eqb (index_count l r) 1 (λ one.
        let same : l ≡ r = omega (arith, one) in
        absurd (true≢false (sym (ends-marked name (last_bracket None 0 name) at l r e same) ∙ none))))

-- what is printed
record IsPrinted (name text : List ℕ) : Type 0 where
  whole : reference_of text 1 ≡ whole_of text
  goes_on : is_end text ≡ false

underscored : (name : List ℕ) → name ++ 95 ∷ [] ≡ 36 ∷ 101 ∷ 110 ∷ 100 ∷ [] → ⊥
underscored name same =
    let long : length name ≡ 3 = omega (arith, length-append name (95 ∷ []), ap length same) in
    let last : get_or (name ++ 95 ∷ []) 3 0 ≡ 95 = ap (λ (n : ℕ). get_or (name ++ 95 ∷ []) n 0) (let e : 3 ≡ length name + 0 = omega (arith, long) in e) ∙ get_or-append-add name (95 ∷ []) 0 0 in
    let other : 100 ≡ 95 = ap (λ (bytes : List ℕ). get_or bytes 3 0) (sym same) ∙ last in
    omega (arith, other)

printed-is : (name : List ℕ) → IsPrinted name (printed name)
printed-is name = by (is_end name) (ends_in_one_index name) refl refl
  where
    with_mark : IsPrinted name (name ++ 95 ∷ [])
    with_mark = record {
      whole = marked-whole name;
      goes_on = no (is_end (name ++ 95 ∷ [])) refl;
    }
      where
        no : (b : Bool) → is_end (name ++ 95 ∷ []) ≡ b → b ≡ false
        no true e = absurd (underscored name ((bytes_eq-Decides (name ++ 95 ∷ []) (36 ∷ 101 ∷ 110 ∷ 100 ∷ [])).0 e))
        no false e = refl

    by : (a b : Bool) → is_end name ≡ a → ends_in_one_index name ≡ b → IsPrinted name (cond (a || b) (name ++ 95 ∷ []) name)
    by true b one two = with_mark
    by false true one two = with_mark
    by false false one two = record { whole = plain-whole name two; goes_on = one }

pub printed-whole : (name : List ℕ) → reference_of (printed name) 1 ≡ whole_of (printed name)
printed-whole name = (printed-is name).whole

pub printed-goes-on : (name : List ℕ) → is_end (printed name) ≡ false
printed-goes-on name = (printed-is name).goes_on

-- ---- its bytes

solid-mark : (name : List ℕ) → list_all is_solid name ≡ true → list_all is_solid (name ++ 95 ∷ []) ≡ true
solid-mark [] each = refl
solid-mark (byte ∷ name) each = and_from (is_solid byte) _ (and_parts (is_solid byte) _ each).0 (solid-mark name (and_parts (is_solid byte) _ each).1)

pub printed-solid : (name : List ℕ) → list_all is_solid name ≡ true → list_all is_solid (printed name) ≡ true
printed-solid name each = by (is_end name || ends_in_one_index name)
  where
    by : (b : Bool) → list_all is_solid (cond b (name ++ 95 ∷ []) name) ≡ true
    by true = solid-mark name each
    by false = each

pub printed-some : (name : List ℕ) → 0 < length name → 0 < length (printed name)
printed-some name some = by (is_end name || ends_in_one_index name)
  where
    by : (b : Bool) → 0 < length (cond b (name ++ 95 ∷ []) name)
    by true = omega (arith, length-append name (95 ∷ []))
    by false = some
