-- A number that is read is the one that was printed.
use Rattle.std.proofs.Common.{◌≡◌, ◌⊎◌, inl, inr, ◌∙◌, ap, sym, subst, ℕ, zero, suc, ◌<◌, ◌≤◌, ◌^◌, ℤ, pos, negsuc, Bool, true, false, cond, leb, ltb, List, [], ◌∷◌, length, get_or, map, Option, Some, None, arith, refl, rules}
use Rattle.std.specs.Prelude.{decimal}
use Rattle.std.specs.Fmt.{signed_decimal}
use Rattle.std.specs.Int.{IsInRange}
use Rattle.std.specs.List.{list_all}
use Rattle.std.proofs.lemmas.Bool.{le-leb, lt-ltb, and_from, and_parts, cond-true, cond-false, ne_eqb, eq-eqb, leb-true, ltb-true, true≢false, false≢true}
use Rattle.std.proofs.lemmas.Fmt.{decimal_nonempty, digits_decimal, digits_value-decimal, decimal-digits_value, first_decimal, decimal_digit}
use Rattle.std.proofs.lemmas.Str.Parse.{IsNumeralModel, numerals_by_fold}
use Rattle.psl_base.specs.Bytes.{is_digit}
use Rattle.psl_base.specs.Decimals.{are_digits, number_after, decimal_upto, leads_with_zero, plain_upto}
use Rattle.clauses.specs.Logs.{is_number}
use Rattle.std.specs.Bool.{IsTrue}
use Rattle.std.proofs.lemmas.List.{get_or-map, length-map}
use lib.Signed.{lt_z}
use lib.IntN.{nat_abs}
use Rattle.clauses.specs.Literals.{is_literal, clause_within}
use Rattle.clauses.specs.declared.flat.TheConstants.{MOST_VARIABLES}

-- each byte is a digit
abbrev pub AreDigits : List ℕ → Type 0
AreDigits text = list_all is_digit text ≡ true

digit_parts : (byte : ℕ) (bytes : List ℕ) → AreDigits (byte ∷ bytes) → IsInRange 48 57 byte × AreDigits bytes
digit_parts byte bytes each = search (rules)

digit_more : (byte : ℕ) (bytes : List ℕ) → IsInRange 48 57 byte → AreDigits bytes → AreDigits (byte ∷ bytes)
digit_more byte bytes within each = search (rules)

numerals : IsNumeralModel AreDigits (number_after 0)
numerals = numerals_by_fold AreDigits (record { empty = refl; parts = digit_parts; more = digit_more }) number_after
    (record { empty = λ n. refl; more = λ n byte bytes within. refl })

-- the digits of a number
pub decimal_are_digits : (number : ℕ) → number < 2 ^ 64 → AreDigits (decimal number)
decimal_are_digits number small = digits_decimal numerals number small

some_digits : (text : List ℕ) → 0 < length text → AreDigits text → are_digits text ≡ true
some_digits [] long each = absurd (omega arith)
some_digits (byte ∷ bytes) long each = each

digits_of_some : (text : List ℕ) → are_digits text ≡ true → (0 < length text) × AreDigits text
digits_of_some [] some = absurd (false≢true some)
digits_of_some (byte ∷ bytes) some = (omega arith, some)

-- no zero leads
no_lead : (text : List ℕ) → 48 < get_or text 0 0 → leads_with_zero text ≡ false
no_lead [] first = refl
no_lead (byte ∷ []) first = refl
no_lead (byte ∷ (next ∷ bytes)) first = ne_eqb byte 48 (λ same. omega arith)

one_zero : (text : List ℕ) → leads_with_zero text ≡ false → 0 < length text → get_or text 0 0 ≡ 48 → length text ≡ 1
one_zero [] none some first = absurd (omega arith)
one_zero (byte ∷ []) none some first = refl
one_zero (byte ∷ (next ∷ bytes)) none some first = absurd (false≢true (sym none ∙ eq-eqb byte 48 first))

decimal_no_lead : (number : ℕ) → number < 2 ^ 64 → leads_with_zero (decimal number) ≡ false
decimal_no_lead zero small = ap leads_with_zero (decimal_digit 0 (omega arith))
decimal_no_lead (suc n) small = no_lead (decimal (suc n)) (first_decimal (suc n) (omega arith) small)

-- what is read of a number's digits
pub plain_of_decimal : (most number : ℕ) → most < 2 ^ 64 → number ≤ most → plain_upto most (decimal number) ≡ Some number
plain_of_decimal most number small within =
    let fits : number < 2 ^ 64 = omega arith in
    let says = digits_value-decimal numerals number fits in
    let below : leb (number_after 0 (decimal number)) most ≡ true = le-leb (number_after 0 (decimal number)) most (omega (arith, says)) in
    let digits = some_digits (decimal number) (decimal_nonempty number fits) (decimal_are_digits number fits) in
    cond-false (leads_with_zero (decimal number)) None (decimal_upto most (decimal number)) (decimal_no_lead number fits)
    ∙ cond-true _ (Some (number_after 0 (decimal number))) None (and_from (are_digits (decimal number)) (leb (number_after 0 (decimal number)) most) digits below)
    ∙ ap (λ (n : ℕ). Some n) says

-- what was read is the number whose digits stand there
by_lead : (lead : Bool) (x : Option ℕ) (number : ℕ) → cond lead None x ≡ Some number → (lead ≡ false) × (x ≡ Some number)
by_lead true x number is = cc
by_lead false x number is = (refl, is)

by_digits : (digits : Bool) (value number : ℕ) → cond digits (Some value) None ≡ Some number → (digits ≡ true) × (value ≡ number)
by_digits true value number is = (refl, cc)
by_digits false value number is = cc

pub decimal_of_plain : (most number : ℕ) (text : List ℕ) → most < 2 ^ 64 → plain_upto most text ≡ Some number → (text ≡ decimal number) × (number ≤ most)
decimal_of_plain most number text small is =
    let plain = by_lead (leads_with_zero text) (decimal_upto most text) number is in
    let read = by_digits _ (number_after 0 text) number plain.1 in
    let parts = and_parts (are_digits text) (leb (number_after 0 text) most) read.0 in
    let digits = digits_of_some text parts.0 in
    let within = leb-true (number_after 0 text) most parts.1 in (
      sym (ap decimal (sym read.1) ∙ decimal-digits_value numerals text digits.1 digits.0 (one_zero text plain.0 digits.0) (omega arith)),
      omega (arith, read.1),
    )

-- the number of a clause
pub number_parts : (number : ℕ) → is_number number ≡ true → (0 < number) × (number ≤ MOST_VARIABLES)
number_parts number some =
    let parts = and_parts (ltb 0 number) (leb number MOST_VARIABLES) some in
    (ltb-true 0 number parts.0, leb-true number MOST_VARIABLES parts.1)

pub not_read : (text : List ℕ) (number : ℕ) (read : Option ℕ) → read ≡ plain_upto MOST_VARIABLES text → (read ≡ None ⊎ read ≡ Some 0) → is_number number ≡ true → text ≡ decimal number → ⊥
not_read text number read is none some same =
    let parts = number_parts number some in
    let reads : read ≡ Some number = is ∙ ap (plain_upto MOST_VARIABLES) same ∙ plain_of_decimal MOST_VARIABLES number (omega arith) parts.1 in
    elim none [
      | inl nothing ↦ cc
      | inr zeroed ↦ let zero_is : 0 ≡ number = cc in omega (arith, parts.0)
    ]

pub number_from : (number : ℕ) → (number ≡ 0 → ⊥) → number ≤ MOST_VARIABLES → is_number number ≡ true
number_from number some within = and_from (ltb 0 number) (leb number MOST_VARIABLES) (lt-ltb 0 number (positive number some)) (le-leb number MOST_VARIABLES within)
  where
    positive : (n : ℕ) → (n ≡ 0 → ⊥) → 0 < n
    positive zero some = absurd (some refl)
    positive (suc n) some = omega arith

-- a text with a `-` in front that is no literal's
first_digit : (byte : ℕ) (bytes : List ℕ) → AreDigits (byte ∷ bytes) → byte ≡ 45 → ⊥
first_digit byte bytes each same =
    let within = (digit_parts byte bytes each).0 in
    omega (arith, within.0, within.1)

pub no_literal_minus : (text digits : List ℕ) (literal : ℤ) → text ≡ 45 ∷ digits → ((number : ℕ) → is_number number ≡ true → digits ≡ decimal number → ⊥) →
    is_literal literal ≡ true → text ≡ signed_decimal literal → ⊥
no_literal_minus text digits (pos n) minus none some same =
    let parts = number_parts n some in
    let begins : 45 ∷ digits ≡ decimal n = sym minus ∙ same in
    first_digit 45 digits (subst AreDigits (sym begins) (decimal_are_digits n (omega (arith, parts.1)))) refl
no_literal_minus text digits (negsuc n) minus none some same =
    let rest : digits ≡ decimal (suc n) = cc in
    none (suc n) some rest

-- one without it
pub no_literal_plain : (text : List ℕ) (literal : ℤ) → (get_or text 0 0 ≡ 45 → ⊥) → ((number : ℕ) → is_number number ≡ true → text ≡ decimal number → ⊥) →
    is_literal literal ≡ true → text ≡ signed_decimal literal → ⊥
no_literal_plain text (pos n) plain none some same = none n some same
no_literal_plain text (negsuc n) plain none some same = plain (ap (λ (bytes : List ℕ). get_or bytes 0 0) same)

-- a literal that is not negated is a number
pub positive_one : (literal : ℤ) → is_literal literal ≡ true → lt_z literal (pos 0) ≡ false → (literal ≡ pos (nat_abs literal)) × (is_number (nat_abs literal) ≡ true)
positive_one (pos n) some above = (refl, some)
positive_one (negsuc n) some above = absurd (true≢false above)

-- and one that is negated is none
negative_one : (literal : ℤ) (number : ℕ) → lt_z literal (pos 0) ≡ true → literal ≡ pos number → ⊥
negative_one (pos n) number below same = absurd (omega (arith, ltb-true n 0 below))
negative_one (negsuc n) number below same = cc

pub negative_at : (literals : List ℤ) (numbers : List ℕ) (place : ℕ) → place < length literals → lt_z (get_or literals place (pos 0)) (pos 0) ≡ true → literals ≡ map (λ number. pos number) numbers → ⊥
negative_at literals numbers place within below same =
    let inside : place < length numbers = omega (arith, ap length same, length-map numbers (λ number. pos number)) in
    negative_one (get_or literals place (pos 0)) (get_or numbers place 0) below
    (ap (λ (ls : List ℤ). get_or ls place (pos 0)) same ∙ get_or-map (λ number. pos number) numbers place 0 (pos 0) inside)

pub literal_at : (literals : List ℤ) (place : ℕ) → IsTrue (clause_within MOST_VARIABLES literals) → place < length literals → is_literal (get_or literals place (pos 0)) ≡ true
literal_at [] place all within = absurd (omega arith)
literal_at (literal ∷ literals) zero all within = (and_parts (is_literal literal) (clause_within MOST_VARIABLES literals) all).0
literal_at (literal ∷ literals) (suc place) all within = literal_at literals place (and_parts (is_literal literal) (clause_within MOST_VARIABLES literals) all).1 (omega arith)
