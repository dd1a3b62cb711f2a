-- A line that gives a number.
use Rattle.std.proofs.Common.{◌≡◌, ◌∙◌, ap, sym, ℕ, ◌<◌, ◌≤◌, ◌^◌, List, ◌∷◌, ◌++◌, length, take, drop, Some, None, arith, length-append}
use Rattle.std.specs.Prelude.{decimal}
use Rattle.std.proofs.lemmas.Option.{none-some}
use Rattle.std.proofs.lemmas.List.{append_cancel_left}
use Rattle.std.proofs.Math.Seq.{drop-append_seam, take-append_seam}
use Rattle.psl_base.specs.Decimals.{plain_upto}
use Rattle.clause_text.proofs.Numerals.{decimal_of_plain, plain_of_decimal}
use Rattle.cert_theory.specs.declared.header.Field.{Field}
use Rattle.cert_theory.specs.declared.header.Field.TheVariants.{Assertion, Visits, Window, Live}
use Rattle.cert_theory.specs.Headers.{Says, least_of, most_of}
use Rattle.cert_theory.specs.Lines.{word_of}

small_most : (field : Field) → most_of field < 2 ^ 64
small_most Assertion = omega arith
small_most Visits = omega arith
small_most Window = omega arith
small_most Live = omega arith

-- the digits behind the word are those of the number
pub digits_are : (field : Field) (line text : List ℕ) (number : ℕ) → line ≡ word_of field ++ 32 ∷ text → Says field line number → text ≡ decimal number
digits_are field line text number is says =
    let same : 32 ∷ text ≡ 32 ∷ decimal number = append_cancel_left (word_of field) (32 ∷ text) (32 ∷ decimal number) (sym is ∙ says.is) in
    ap (drop 1) same

-- the number that is read
read_number : (field : Field) (line text : List ℕ) (number : ℕ) → line ≡ word_of field ++ 32 ∷ text → Says field line number → plain_upto (most_of field) text ≡ Some number
read_number field line text number is says =
    ap (plain_upto (most_of field)) (digits_are field line text number is says)
    ∙ plain_of_decimal (most_of field) number (small_most field) says.may.most

pub none_read : (field : Field) (line text : List ℕ) (number : ℕ) → line ≡ word_of field ++ 32 ∷ text → None ≡ plain_upto (most_of field) text → Says field line number → ⊥
none_read field line text number is none says = none-some number (none ∙ read_number field line text number is says)

pub too_small : (field : Field) (line text : List ℕ) (read number : ℕ) → line ≡ word_of field ++ 32 ∷ text → Some read ≡ plain_upto (most_of field) text → read < least_of field
    → Says field line number → ⊥
too_small field line text read number is some few says =
    let both : Some read ≡ Some number = some ∙ read_number field line text number is says in
    let same : read ≡ number = cc in
    omega (arith, same, says.may.least)

pub number_says : (field : Field) (line text : List ℕ) (read : ℕ) → line ≡ word_of field ++ 32 ∷ text → Some read ≡ plain_upto (most_of field) text → least_of field ≤ read
    → Says field line read
number_says field line text read is some least =
    let plain = decimal_of_plain (most_of field) read text (small_most field) (sym some) in
    record { is = is ∙ ap (λ (digits : List ℕ). word_of field ++ 32 ∷ digits) plain.0; may = record { least = least; most = plain.1 } }

-- a word and a blank at the front of a line
pub too_short : (line word rest : List ℕ) → length line ≤ length word → line ≡ word ++ 32 ∷ rest → ⊥
too_short line word rest short is = omega (arith, ap length is, length-append word (32 ∷ rest))

pub front_is : (line word rest : List ℕ) → line ≡ word ++ 32 ∷ rest → take (length word) line ≡ word
front_is line word rest is = ap (take (length word)) is ∙ take-append_seam word (32 ∷ rest)

pub back_is : (line word rest : List ℕ) → line ≡ word ++ 32 ∷ rest → drop (length word) line ≡ 32 ∷ rest
back_is line word rest is = ap (drop (length word)) is ∙ drop-append_seam word (32 ∷ rest)
