-- The decimal form of a time is read as that time.
use Rattle.std.proofs.Common.{◌≡◌, ◌∙◌, ap, ℕ, ◌<◌, ◌^◌, true, List, [], ◌∷◌, length, Some, arith, refl, rules}
use Rattle.std.specs.Prelude.{decimal, nat_le}
use Rattle.std.specs.Int.{IsInRange}
use Rattle.std.specs.List.{list_all}
use Rattle.std.proofs.lemmas.Bool.{le-leb, and_from, cond-true}
use Rattle.std.proofs.lemmas.Fmt.{decimal_nonempty, digits_decimal, digits_value-decimal}
use Rattle.std.proofs.lemmas.Str.Parse.{IsNumeralModel, numerals_by_fold}
use Rattle.psl_base.specs.Bytes.{is_digit}
use Rattle.psl_base.specs.Decimals.{are_digits, number_after}
use Rattle.vcd_reader.specs.Standing.{time_of, time_most}

-- each byte is a digit
abbrev pub AreDigits : List ℕ → Type 0
AreDigits text = list_all is_digit text ≡ true

digit_parts : (byte : ℕ) (bytes : List ℕ) → AreDigits (byte ∷ bytes) → IsInRange 48 57 byte × AreDigits bytes
digit_parts byte bytes each = search (rules)

digit_more : (byte : ℕ) (bytes : List ℕ) → IsInRange 48 57 byte → AreDigits bytes → AreDigits (byte ∷ bytes)
digit_more byte bytes within each = search (rules)

pub numerals : IsNumeralModel AreDigits (number_after 0)
numerals = numerals_by_fold AreDigits (record { empty = refl; parts = digit_parts; more = digit_more }) number_after
    (record { empty = λ n. refl; more = λ n byte bytes within. refl })

-- the decimal form of a number has a digit, and digits alone
pub form-digits : (number : ℕ) → number < 2 ^ 64 → are_digits (decimal number) ≡ true
form-digits number small = some (decimal number) (decimal_nonempty number small) (digits_decimal numerals number small)
  where
    some : (text : List ℕ) → 0 < length text → AreDigits text → are_digits text ≡ true
    some [] long each = absurd (omega arith)
    some (byte ∷ bytes) long each = each

pub form-all : (number : ℕ) → number < 2 ^ 64 → list_all is_digit (decimal number) ≡ true
form-all number small = digits_decimal numerals number small

-- it says the number
pub form-says : (number : ℕ) → number < 2 ^ 64 → number_after 0 (decimal number) ≡ number
form-says number small = digits_value-decimal numerals number small

-- behind `#` it is read as a time
pub form-time : (number : ℕ) → number < 2 ^ 64 → time_of (35 ∷ decimal number) ≡ Some number
form-time number small =
    let within : nat_le (number_after 0 (decimal number)) time_most ≡ true = le-leb _ _ (let says = form-says number small in omega arith) in
    cond-true _ _ _ (and_from _ _ (form-digits number small) within) ∙ ap Some (form-says number small)
