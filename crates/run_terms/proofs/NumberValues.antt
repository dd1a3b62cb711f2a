-- Numbers as bits: what their comparison says, and how many gates it takes.
use Rattle.std.proofs.Common.{◌≡◌, ℕ, zero, suc, ◌+◌, ◌*◌, ◌/◌, ◌%◌, ◌^◌, ◌<◌, ℤ, Bool, true, false, not, ◌&&◌, ◌||◌, cond, eqb, ltb, leb, List, [], ◌∷◌, map, length, ◌⊎◌, inl, inr, refl, sym, ap, ◌∙◌, arith, pow-suc}
use Rattle.std.specs.Bool.{IsTrue}
use Rattle.std.proofs.lemmas.Bool.{and_from, and_parts, cases_eq, eq-eqb, ne_eqb, leb-true, le-leb}
use Rattle.std.proofs.lemmas.Bool.Decides.{same_from_decides, Decides-like, Decides-ltb}
use Rattle.std.specs.Prelude.{Decides}
use Rattle.clauses.specs.Literals.{is_within, clause_within}
use Rattle.clauses.specs.Models.{Assignment, is_true}
use Rattle.gates_theory.specs.Terms.{Term, value, term_within, term_size}
use Rattle.gates_theory.specs.Terms.Term.{Literal, Negation, Conjunction}
use Rattle.run_terms.specs.Booleans.{either}
use Rattle.run_terms.specs.Numbers.{number_of, bits_of_number, at_most}
use Rattle.run_terms.proofs.Logic.{either-value}

-- the bits so far say that the first number is not at most the other
abbrev above : Bool → Bool → Bool → Bool
above strict a b = (strict && not (not a && b)) || (a && not b)

-- a number is less than another one, or at most
abbrev pub compared : Bool → ℕ → ℕ → Bool
compared strict x y = cond strict (ltb x y) (leb x y)

abbrev digit : Bool → ℕ
digit b = cond b 1 0

compared-decides : (strict : Bool) (x y : ℕ) → Decides (compared strict x y) (x < y + digit (not strict))
compared-decides true x y = Decides-like (ltb x y) (λ h. omega arith) (λ h. omega arith) (Decides-ltb x y)
compared-decides false x y = Decides-like (leb x y) (λ h. omega arith) (λ h. omega arith) (leb-true x y, le-leb x y)

abbrev Next : Bool → Bool → Bool → ℕ → ℕ → Type 0
Next strict a b x y =
    ((digit a + 2 * x < digit b + 2 * y + digit (not strict)) → x < y + digit (not (above strict a b)))
    × ((x < y + digit (not (above strict a b))) → digit a + 2 * x < digit b + 2 * y + digit (not strict))

next_digits : (strict a b : Bool) (x y : ℕ) → Next strict a b x y
next_digits true true true x y = ((λ h. omega arith), (λ h. omega arith))
next_digits true true false x y = ((λ h. omega arith), (λ h. omega arith))
next_digits true false true x y = ((λ h. omega arith), (λ h. omega arith))
next_digits true false false x y = ((λ h. omega arith), (λ h. omega arith))
next_digits false true true x y = ((λ h. omega arith), (λ h. omega arith))
next_digits false true false x y = ((λ h. omega arith), (λ h. omega arith))
next_digits false false true x y = ((λ h. omega arith), (λ h. omega arith))
next_digits false false false x y = ((λ h. omega arith), (λ h. omega arith))

compared-digits : (strict a b : Bool) (x y : ℕ) → compared strict (digit a + 2 * x) (digit b + 2 * y) ≡ compared (above strict a b) x y
compared-digits strict a b x y =
    same_from_decides (compared strict (digit a + 2 * x) (digit b + 2 * y)) (compared (above strict a b) x y)
    (compared-decides strict (digit a + 2 * x) (digit b + 2 * y))
    (Decides-like (compared (above strict a b) x y) (next_digits strict a b x y).1 (next_digits strict a b x y).0 (compared-decides (above strict a b) x y))

abbrev next_strict : Term → ℤ → ℤ → Term
next_strict strict first second =
    either (Conjunction strict (Negation (Conjunction (Negation (Literal first)) (Literal second)))) (Conjunction (Literal first) (Negation (Literal second)))

next_strict-value : (v : Assignment) (strict : Term) (first second : ℤ) → value v (next_strict strict first second) ≡ above (value v strict) (is_true v first) (is_true v second)
next_strict-value v strict first second =
    either-value v (Conjunction strict (Negation (Conjunction (Negation (Literal first)) (Literal second)))) (Conjunction (Literal first) (Negation (Literal second)))

nothing_compared : (strict : Bool) → not strict ≡ compared strict 0 0
nothing_compared true = refl
nothing_compared false = refl

-- the value of the comparison of two numbers of as many bits
pub at_most-value : (v : Assignment) (strict : Term) (firsts seconds : List ℤ) → length firsts ≡ length seconds
    → value v (at_most strict firsts seconds) ≡ compared (value v strict) (number_of (map (is_true v) firsts)) (number_of (map (is_true v) seconds))
at_most-value v strict [] [] e = nothing_compared (value v strict)
at_most-value v strict [] (second ∷ seconds) e = absurd (omega arith)
at_most-value v strict (first ∷ firsts) [] e = absurd (omega arith)
at_most-value v strict (first ∷ firsts) (second ∷ seconds) e =
    let x = number_of (map (is_true v) firsts) in
    let y = number_of (map (is_true v) seconds) in
    at_most-value v (next_strict strict first second) firsts seconds (omega arith)
    ∙ ap (λ b. compared b x y) (next_strict-value v strict first second)
    ∙ sym (compared-digits (value v strict) (is_true v first) (is_true v second) x y)

pub at_most-within : (variables : ℕ) (strict : Term) (firsts seconds : List ℤ) → IsTrue (term_within variables strict) → IsTrue (clause_within variables firsts)
    → IsTrue (clause_within variables seconds) → IsTrue (term_within variables (at_most strict firsts seconds))
at_most-within variables strict [] seconds within first_in second_in = within
at_most-within variables strict (first ∷ firsts) [] within first_in second_in = within
at_most-within variables strict (first ∷ firsts) (second ∷ seconds) within first_in second_in =
    let a = and_parts (is_within variables first) (clause_within variables firsts) first_in in
    let b = and_parts (is_within variables second) (clause_within variables seconds) second_in in
    let both = and_from (is_within variables first) (is_within variables second) a.0 b.0 in
    at_most-within variables (next_strict strict first second) firsts seconds
    (and_from (term_within variables strict && (is_within variables first && is_within variables second)) (is_within variables first && is_within variables second)
    (and_from (term_within variables strict) (is_within variables first && is_within variables second) within both) both) a.1 b.1

-- four gates a bit
pub at_most-size : (strict : Term) (firsts seconds : List ℤ) → length firsts ≡ length seconds → term_size (at_most strict firsts seconds) ≡ term_size strict + 4 * length firsts
at_most-size strict [] [] e = omega arith
at_most-size strict [] (second ∷ seconds) e = absurd (omega arith)
at_most-size strict (first ∷ firsts) [] e = absurd (omega arith)
at_most-size strict (first ∷ firsts) (second ∷ seconds) e = omega (arith, at_most-size (next_strict strict first second) firsts seconds (omega arith))

-- the bits of a number
pub bits_of_number-length : (width number : ℕ) → length (bits_of_number width number) ≡ width
bits_of_number-length zero number = refl
bits_of_number-length (suc width) number = ap suc (bits_of_number-length width (number / 2))

last_digit : (number : ℕ) → digit (eqb (number % 2) 1) ≡ number % 2
last_digit number = by (cases_eq (number % 2) 1)
  where
    by : (number % 2 ≡ 1) ⊎ (number % 2 ≡ 1 → ⊥) → digit (eqb (number % 2) 1) ≡ number % 2
    by (inl one) = ap digit (eq-eqb (number % 2) 1 one) ∙ sym one
    by (inr other) = ap digit (ne_eqb (number % 2) 1 other) ∙ omega (arith, other)

pub number_of-bits : (width number : ℕ) → number < 2 ^ width → number_of (bits_of_number width number) ≡ number
number_of-bits zero number below = omega arith
number_of-bits (suc width) number below =
    let rest = number_of-bits width (number / 2) (omega (arith, below, pow-suc 2 width)) in
    omega (arith, last_digit number, rest)

-- as many bits stand for as many numbers
pub number_of-below : (bits : List Bool) → number_of bits < 2 ^ length bits
number_of-below [] = omega arith
number_of-below (true ∷ bits) = omega (arith, number_of-below bits, pow-suc 2 (length bits))
number_of-below (false ∷ bits) = omega (arith, number_of-below bits, pow-suc 2 (length bits))
