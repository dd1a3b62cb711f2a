-- Literals: their negation, and what moving them does.
use Rattle.std.proofs.Common.{◌≡◌, ℕ, zero, suc, ◌+◌, ◌<◌, ◌≤◌, ℤ, pos, negsuc, neg_ℤ, Bool, true, false, not, refl, sym, ap, arith}
use Rattle.std.specs.Bool.{IsTrue}
use Rattle.std.proofs.lemmas.Bool.{and_from, and_parts, ltb-true, leb-true, lt-ltb, le-leb}
use Rattle.clauses.specs.Literals.{variable_of, is_within}
use Rattle.clauses.specs.Models.{Assignment, is_true}
use Rattle.gates_theory.specs.Unrolled.{moved}

-- the assignment that a position sees whose variables begin behind so many
abbrev pub shifted : ℕ → Assignment → Assignment
shifted base values gate = values (base + gate)

pub not_not : (b : Bool) → not (not b) ≡ b
not_not true = refl
not_not false = refl

-- the negation of a literal
pub true-neg : (values : Assignment) (literal : ℤ) → 0 < variable_of literal → is_true values (neg_ℤ literal) ≡ not (is_true values literal)
true-neg values (pos zero) some = absurd (omega arith)
true-neg values (pos (suc n)) some = refl
true-neg values (negsuc n) some = sym (not_not (values (suc n)))

-- a moved literal
pub true-moved : (values : Assignment) (base : ℕ) (literal : ℤ) → is_true values (moved base literal) ≡ is_true (shifted base values) literal
true-moved values base (pos n) = refl
true-moved values base (negsuc n) = let e : suc (base + n) ≡ base + suc n = omega arith in ap (λ k. not (values k)) e

pub variable-moved : (base : ℕ) (literal : ℤ) → variable_of (moved base literal) ≡ base + variable_of literal
variable-moved base (pos n) = refl
variable-moved base (negsuc n) = omega arith

-- a literal within some variables
pub within_is : (variables : ℕ) (literal : ℤ) → IsTrue (is_within variables literal) → (0 < variable_of literal) × (variable_of literal ≤ variables)
within_is variables literal within =
    let parts = and_parts _ _ within in
    (ltb-true 0 (variable_of literal) parts.0, leb-true (variable_of literal) variables parts.1)

pub within_from : (variables : ℕ) (literal : ℤ) → 0 < variable_of literal → variable_of literal ≤ variables → IsTrue (is_within variables literal)
within_from variables literal some few = and_from _ _ (lt-ltb 0 (variable_of literal) some) (le-leb (variable_of literal) variables few)

pub some_moved : (variables base : ℕ) (literal : ℤ) → IsTrue (is_within variables literal) → 0 < variable_of (moved base literal)
some_moved variables base literal within = omega (arith, variable-moved base literal, (within_is variables literal within).0)
