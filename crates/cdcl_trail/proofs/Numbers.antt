-- Literals as numbers: a literal and its negation.
use Rattle.std.proofs.Common.{◌≡◌, ℕ, ◌*◌, ◌<◌, ◌⊎◌, inl, inr, arith}
use Rattle.std.proofs.lemmas.Bool.{cases_eq}
use Rattle.cdcl_trail.specs.Literals.{variable, opposite}

pub variable-opposite : (literal : ℕ) → variable (opposite literal) ≡ variable literal
variable-opposite literal = omega arith

pub opposite-differs : (literal : ℕ) → literal ≡ opposite literal → ⊥
opposite-differs literal same = omega arith

pub opposite-opposite : (literal : ℕ) → opposite (opposite literal) ≡ literal
opposite-opposite literal = omega arith

pub opposite_within : (variables literal : ℕ) → literal < 2 * variables → opposite literal < 2 * variables
opposite_within variables literal within = omega arith

-- two literals of one variable are the same, or the one is the negation of the other
pub same_variable : (literal other : ℕ) → variable literal ≡ variable other → (literal ≡ other) ⊎ (literal ≡ opposite other)
same_variable literal other same = elim (cases_eq literal other) [ inl is ↦ inl is | inr differs ↦ inr (omega arith) ]
