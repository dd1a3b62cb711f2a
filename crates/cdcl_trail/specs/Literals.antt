-- Literals as numbers: that of the variable v, counted from 0, is 2v, and its negation 2v + 1.
use Rattle.std.specs.Prelude.{ℕ, suc, ◌+◌, ◌-◌, ◌*◌, ◌/◌, ◌%◌, ℤ, pos, negsuc, cond, nat_eq}

-- the variable of a literal
abbrev pub variable : ℕ → ℕ
variable literal = literal / 2

-- the negation of a literal
abbrev pub opposite : ℕ → ℕ
opposite literal = literal / 2 * 2 + (1 - literal % 2)

-- the literal as a signed number: the variable counted from 1, and negative for a negation
abbrev pub signed : ℕ → ℤ
signed literal = cond (nat_eq (literal % 2) 0) (pos (suc (literal / 2))) (negsuc (literal / 2))
