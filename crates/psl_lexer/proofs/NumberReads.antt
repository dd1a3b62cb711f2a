-- Numbers and constants: what is read stands there, and what stands there is read.
use Rattle.std.proofs.Common.{◌≡◌, ℕ, ◌+◌, ◌<◌, ◌≤◌, Bool, true, false, cond, List, [], ◌∷◌, ◌++◌, length, take, drop, Option, Some, None, nat_eq, refl, sym, ap, subst, ◌∙◌, inl, inr, ⊎_elim, append_assoc, length-append, arith}
use Rattle.std.proofs.Math.Seq.{take-append_seam, drop-append_seam}
use Rattle.std.proofs.lemmas.Bool.{eqb-true, cases_order}
use Rattle.std.proofs.lemmas.Bool.Decides.{nat_tests}
use Rattle.std.proofs.lemmas.List.{take-append-drop, take_at}
use Rattle.std.proofs.lemmas.List.Folds.{length-prefix_len}
use Rattle.std.specs.List.{prefix_len, list_all}
use Rattle.psl_lexer.specs.declared.kind.TokenKind.{TokenKind}
use Rattle.psl_lexer.specs.declared.kind.TokenKind.TheVariants.{Number, Constant}
use Rattle.psl_lexer.specs.declared.front.Front.TheVariants as fronts
use Rattle.psl_lexer.specs.Bytes.{is_white, begins_name, is_digit, continues_number, base_of, is_digit_of, continues_digits}
use Rattle.psl_lexer.specs.Values.{value_of, is_past_number, is_past_size}
use Rattle.psl_lexer.specs.Tokens.{Digits, Sized, IsNumber, AreDigits, IsToken, Stops}
use Rattle.psl_lexer.specs.Faults.{NoBase, NoDigit, OpenSize, OpenBase}
use Rattle.psl_lexer.specs.Fronts.{HasToken, Stands, Covers}
use Rattle.psl_lexer.specs.Reading.{begins, digits_front, based_front, constant_front, number_before, number_front, front_of}
use Rattle.psl_lexer.proofs.Runs.{both_pass, front_passes, front_stops, prefix_len-front, prefix_len-more}
use Rattle.psl_lexer.proofs.WordReads.{where_stops}

-- a digit is no white space, and begins no name
pub digit_no_white : (b : ℕ) → is_digit b ≡ true → is_white b ≡ false
digit_no_white b h = grind (arith, nat_tests)

pub digit_no_name : (b : ℕ) → is_digit b ≡ true → begins_name b ≡ false
unfolding begins_name
digit_no_name b h = grind (arith, nat_tests)

digit_continues : (b : ℕ) → is_digit b ≡ true → continues_number b ≡ true
unfolding continues_number
digit_continues b h = rw h refl

number_continues : (digits : List ℕ) → IsNumber digits → list_all continues_number digits ≡ true
number_continues [] h = elim h [ ]
number_continues (first ∷ others) h = rw (digit_continues first h.0) h.1

of_base_continues : (base b : ℕ) → is_digit_of base b ≡ true → continues_digits base b ≡ true
unfolding continues_digits
of_base_continues base b h = rw h refl

digits_continue : (base : ℕ) (digits : List ℕ) → AreDigits base digits → list_all (continues_digits base) digits ≡ true
digits_continue base [] h = elim h [ ]
digits_continue base (first ∷ others) h = rw (of_base_continues base first h.0) h.1

-- the front of a text that begins with a digit is a number
number_is : (digits after : List ℕ) (b : ℕ) (bs : List ℕ) → digits ++ after ≡ b ∷ bs → is_digit b ≡ true → list_all continues_number digits ≡ true → Stops continues_number after → IsNumber digits
number_is [] [] b bs is h passes stops = cc
number_is [] (x ∷ after) b bs is h passes stops =
    let first : x ≡ b = cc in
    let bad : continues_number b ≡ false = subst (λ (n : ℕ). continues_number n ≡ false) first stops in
    let good = digit_continues b h in
    cc
number_is (x ∷ digits) after b bs is h passes stops =
    let first : b ≡ x = cc in
    (subst (λ (n : ℕ). is_digit n ≡ true) first h, (both_pass (continues_number x) (list_all continues_number digits) passes).1)

-- and that of one that begins with a digit of a base is digits of it
digits_are : (base : ℕ) (digits after : List ℕ) (b : ℕ) (bs : List ℕ) → digits ++ after ≡ b ∷ bs → is_digit_of base b ≡ true → list_all (continues_digits base) digits ≡ true → Stops (continues_digits base) after → AreDigits base digits
digits_are base [] [] b bs is h passes stops = cc
digits_are base [] (x ∷ after) b bs is h passes stops =
    let first : x ≡ b = cc in
    let bad : continues_digits base b ≡ false = subst (λ (n : ℕ). continues_digits base n ≡ false) first stops in
    let good = of_base_continues base b h in
    cc
digits_are base (x ∷ digits) after b bs is h passes stops =
    let first : b ≡ x = cc in
    (subst (λ (n : ℕ). is_digit_of base n ≡ true) first h, (both_pass (continues_digits base x) (list_all (continues_digits base) digits) passes).1)

-- how long a constant is
sized_len : (size digits : List ℕ) (letter len : ℕ) → length digits ≡ len → length size + 2 + len ≡ length (size ++ 39 ∷ letter ∷ digits)
sized_len size digits letter len h = omega (arith, length-append size (39 ∷ letter ∷ digits), h)

by_size : (rest size digits : List ℕ) (letter base len : ℕ) (b : Bool) → is_past_size (value_of 10 size) (value_of base digits) ≡ b →
    HasToken rest (Sized size letter base digits) Constant len → take len rest ≡ size ++ 39 ∷ letter ∷ digits →
    Stands rest (cond b (fronts.TooLarge len) (fronts.Token Constant len))
by_size rest size digits letter base len true h has text = (Sized size letter base digits, Constant, has, h)
by_size rest size digits letter base len false h has text = (Sized size letter base digits, has, h, sym text)

digits_stand : (size : List ℕ) (letter base : ℕ) (behind : List ℕ) → IsNumber size → base_of letter ≡ Some base → Stands (size ++ 39 ∷ letter ∷ behind) (digits_front base size behind)
unfolding digits_front
digits_stand size letter base [] number h = (OpenBase size letter base, refl, (number, h))
digits_stand size letter base (b ∷ bs) number h = at (is_digit_of base b) refl where
  at : (test : Bool) → is_digit_of base b ≡ test → Stands (size ++ 39 ∷ letter ∷ b ∷ bs) (cond test
      (cond (is_past_size (value_of 10 size) (value_of base (take (prefix_len (continues_digits base) (b ∷ bs)) (b ∷ bs))))
      (fronts.TooLarge (length size + 2 + prefix_len (continues_digits base) (b ∷ bs)))
      (fronts.Token Constant (length size + 2 + prefix_len (continues_digits base) (b ∷ bs))))
      (fronts.Bad (length size + 2)))
  at false e = (NoDigit size letter base b bs, refl, (number, h, e), refl)
  at true e =
      let n = prefix_len (continues_digits base) (b ∷ bs) in
      let digits = take n (b ∷ bs) in
      let after = drop n (b ∷ bs) in
      let split = take-append-drop n (b ∷ bs) in
      let are = digits_are base digits after b bs split e (front_passes (continues_digits base) (b ∷ bs)) (front_stops (continues_digits base) (b ∷ bs)) in
      let len = sized_len size digits letter n (length-prefix_len (continues_digits base) (b ∷ bs)) in
      let whole : size ++ 39 ∷ letter ∷ b ∷ bs ≡ (size ++ 39 ∷ letter ∷ digits) ++ after =
      ap (λ t. size ++ 39 ∷ letter ∷ t) (sym split) ∙ sym (append_assoc size (39 ∷ letter ∷ digits) after) in
      by_size (size ++ 39 ∷ letter ∷ b ∷ bs) size digits letter base (length size + 2 + n) (is_past_size (value_of 10 size) (value_of base digits)) refl
      (record { after = after; is = whole; token = (number, h, are, refl); len_is = len })
      (ap (take (length size + 2 + n)) whole ∙ take_at (size ++ 39 ∷ letter ∷ digits) after (length size + 2 + n) (sym len))

constant_stands : (size behind : List ℕ) → IsNumber size → Stands (size ++ 39 ∷ behind) (constant_front size behind)
unfolding constant_front
constant_stands size [] number = (OpenSize size, refl, number)
constant_stands size (letter ∷ behind) number = at (base_of letter) refl where
  at : (base : Option ℕ) → base_of letter ≡ base → Stands (size ++ 39 ∷ letter ∷ behind) (based_front base size behind)
  at None h = (NoBase size letter behind, refl, (number, h), refl)
  at (Some base) h = digits_stand size letter base behind number h

begins_where : (after : List ℕ) → begins (λ byte. nat_eq byte 39) after ≡ true → after ≡ 39 ∷ drop 1 after
begins_where [] h = cc
begins_where (b ∷ after) h = rw (eqb-true b 39 h) refl

stops_begins : (p : ℕ → Bool) (after : List ℕ) → begins p after ≡ false → Stops p after
stops_begins p [] h = tt
stops_begins p (b ∷ after) h = h

by_value : (digits after : List ℕ) (b : Bool) → is_past_number (value_of 10 digits) ≡ b → IsToken (Digits digits) Number after → Stands (digits ++ after) (cond b (fronts.TooLarge (length digits)) (fronts.Token Number (length digits)))
by_value digits after true h token = (Digits digits, Number, record { after = after; is = refl; token = token; len_is = refl }, h)
by_value digits after false h token = (Digits digits, record { after = after; is = refl; token = token; len_is = refl }, h, sym (take_at digits after (length digits) refl))

before_stands : (digits after : List ℕ) → IsNumber digits → Stops continues_number after → Stands (digits ++ after) (number_before digits after)
unfolding number_before
before_stands digits after number stops = at (begins (λ byte. nat_eq byte 39) after) refl where
  at : (b : Bool) → begins (λ byte. nat_eq byte 39) after ≡ b → Stands (digits ++ after) (cond b (constant_front digits (drop 1 after)) (cond (is_past_number (value_of 10 digits)) (fronts.TooLarge (length digits)) (fronts.Token Number (length digits))))
  at true h = subst (λ (t : List ℕ). Stands (digits ++ t) (constant_front digits (drop 1 after))) (sym (begins_where after h)) (constant_stands digits (drop 1 after) number)
  at false h = by_value digits after (is_past_number (value_of 10 digits)) refl (number, stops, stops_begins (λ byte. nat_eq byte 39) after h, refl)

pub number_stands : (b : ℕ) (bs : List ℕ) → is_digit b ≡ true → Stands (b ∷ bs) (number_front (b ∷ bs))
unfolding number_front
number_stands b bs h =
    let n = prefix_len continues_number (b ∷ bs) in
    let split = take-append-drop n (b ∷ bs) in
    let stops = front_stops continues_number (b ∷ bs) in
    let number = number_is (take n (b ∷ bs)) (drop n (b ∷ bs)) b bs split h (front_passes continues_number (b ∷ bs)) stops in
    subst (λ (rest : List ℕ). Stands rest (number_before (take n (b ∷ bs)) (drop n (b ∷ bs)))) split (before_stands (take n (b ∷ bs)) (drop n (b ∷ bs)) number stops)

-- where a text begins with a number, it is read whole
reads_front : (digits after : List ℕ) → IsNumber digits → front_of (digits ++ after) ≡ number_front (digits ++ after)
unfolding front_of
reads_front [] after h = elim h [ ]
reads_front (first ∷ others) after h = rw (digit_no_white first h.0, digit_no_name first h.0, h.0) refl

reads_number : (digits after : List ℕ) → IsNumber digits → Stops continues_number after → front_of (digits ++ after) ≡ number_before digits after
unfolding number_front
reads_number digits after number stops =
    let len = prefix_len-front continues_number digits after (number_continues digits number) stops in
    reads_front digits after number ∙ rw (len, take-append_seam digits after, drop-append_seam digits after) refl

pub digits_cover : (digits after : List ℕ) (kind : TokenKind) → IsToken (Digits digits) kind after → Covers (digits ++ after) (Digits digits) kind (front_of (digits ++ after))
unfolding number_before
digits_cover digits after kind token =
    rw (reads_number digits after token.0 token.1, where_stops (λ byte. nat_eq byte 39) after token.2) (at (is_past_number (value_of 10 digits)) refl) where
      at : (b : Bool) → is_past_number (value_of 10 digits) ≡ b → Covers (digits ++ after) (Digits digits) kind (cond b (fronts.TooLarge (length digits)) (fronts.Token Number (length digits)))
      at true h = inr (refl, h)
      at false h = inr (refl, token.3, h, sym (take_at digits after (length digits) refl))

quote_stops : (letter : ℕ) (behind : List ℕ) → Stops continues_number (39 ∷ letter ∷ behind)
unfolding continues_number
quote_stops letter behind = refl

-- a constant is read by its parts
reads_constant : (size : List ℕ) (behind : List ℕ) → IsNumber size → front_of (size ++ 39 ∷ behind) ≡ constant_front size behind
unfolding number_before continues_number
reads_constant size behind number = reads_number size (39 ∷ behind) number refl

reads_based : (size : List ℕ) (letter base : ℕ) (behind : List ℕ) → IsNumber size → base_of letter ≡ Some base → front_of (size ++ 39 ∷ letter ∷ behind) ≡ digits_front base size behind
unfolding constant_front
reads_based size letter base behind number h = reads_constant size (letter ∷ behind) number ∙ rw h refl

reads_digits : (base : ℕ) (size digits after : List ℕ) → AreDigits base digits → digits_front base size (digits ++ after) ≡ (
    let len = prefix_len (continues_digits base) (digits ++ after) in
    cond (is_past_size (value_of 10 size) (value_of base (take len (digits ++ after)))) (fronts.TooLarge (length size + 2 + len)) (fronts.Token Constant (length size + 2 + len)))
unfolding digits_front
reads_digits base size [] after are = elim are [ ]
reads_digits base size (d ∷ digits) after are = rw are.0 refl

pub sized_covers : (size digits : List ℕ) (letter base : ℕ) (after : List ℕ) (kind : TokenKind) → IsToken (Sized size letter base digits) kind after →
    Covers ((size ++ 39 ∷ letter ∷ digits) ++ after) (Sized size letter base digits) kind (front_of ((size ++ 39 ∷ letter ∷ digits) ++ after))
sized_covers size digits letter base after kind token =
    let n = prefix_len (continues_digits base) (digits ++ after) in
    let more : length digits ≤ n = prefix_len-more (continues_digits base) digits after (digits_continue base digits token.2) in
    let len = sized_len size digits letter (length digits) refl in
    let read = ap front_of (append_assoc size (39 ∷ letter ∷ digits) after) ∙ reads_based size letter base (digits ++ after) token.0 token.1 ∙ reads_digits base size digits after token.2 in
    rw read (at n more len (is_past_size (value_of 10 size) (value_of base (take n (digits ++ after)))) refl) where
      at : (n : ℕ) → length digits ≤ n → length size + 2 + length digits ≡ length (size ++ 39 ∷ letter ∷ digits) → (b : Bool) →
          is_past_size (value_of 10 size) (value_of base (take n (digits ++ after))) ≡ b →
          Covers ((size ++ 39 ∷ letter ∷ digits) ++ after) (Sized size letter base digits) kind (cond b (fronts.TooLarge (length size + 2 + n)) (fronts.Token Constant (length size + 2 + n)))
      at n more len b h =
          ⊎_elim (λ e. exact n len e b (ap (λ t. is_past_size (value_of 10 size) (value_of base t)) (sym (take_at digits after n e)) ∙ h))
          (λ o. longer n len (⊎_elim (λ lt. lt) (λ gt. absurd (omega (arith, more, gt))) o) b)
          (cases_order (length digits) n) where
            longer : (n : ℕ) → length size + 2 + length digits ≡ length (size ++ 39 ∷ letter ∷ digits) → length digits < n → (b : Bool) →
                Covers ((size ++ 39 ∷ letter ∷ digits) ++ after) (Sized size letter base digits) kind (cond b (fronts.TooLarge (length size + 2 + n)) (fronts.Token Constant (length size + 2 + n)))
            longer n len lt true = inl (omega (arith, len, lt))
            longer n len lt false = inl (omega (arith, len, lt))

            exact : (n : ℕ) → length size + 2 + length digits ≡ length (size ++ 39 ∷ letter ∷ digits) → length digits ≡ n → (b : Bool) →
                is_past_size (value_of 10 size) (value_of base digits) ≡ b →
                Covers ((size ++ 39 ∷ letter ∷ digits) ++ after) (Sized size letter base digits) kind (cond b (fronts.TooLarge (length size + 2 + n)) (fronts.Token Constant (length size + 2 + n)))
            exact n len e true h = inr (omega (arith, len, e), h)
            exact n len e false h =
                let same : length (size ++ 39 ∷ letter ∷ digits) ≡ length size + 2 + n = omega (arith, len, e) in
                inr (same, token.3, h, sym (take_at (size ++ 39 ∷ letter ∷ digits) after (length size + 2 + n) same))

-- what is wrong with a constant is read too
pub no_base_read : (size : List ℕ) (bad : ℕ) (behind : List ℕ) → IsNumber size → base_of bad ≡ None → front_of (size ++ 39 ∷ bad ∷ behind) ≡ fronts.Bad (length size + 1)
unfolding constant_front
no_base_read size bad behind number h = reads_constant size (bad ∷ behind) number ∙ rw h refl

pub no_digit_read : (size : List ℕ) (letter base bad : ℕ) (behind : List ℕ) → IsNumber size → base_of letter ≡ Some base → is_digit_of base bad ≡ false → front_of (size ++ 39 ∷ letter ∷ bad ∷ behind) ≡ fronts.Bad (length size + 2)
unfolding digits_front
no_digit_read size letter base bad behind number h none = reads_based size letter base (bad ∷ behind) number h ∙ rw none refl

pub open_size_read : (size : List ℕ) → IsNumber size → front_of (size ++ 39 ∷ []) ≡ fronts.Unended
unfolding constant_front
open_size_read size number = reads_constant size [] number

pub open_base_read : (size : List ℕ) (letter base : ℕ) → IsNumber size → base_of letter ≡ Some base → front_of (size ++ 39 ∷ letter ∷ []) ≡ fronts.Unended
unfolding digits_front
open_base_read size letter base number h = reads_based size letter base [] number h
