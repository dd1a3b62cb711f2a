-- How many bytes a trace has, where they are at most so many.
use Rattle.std.specs.Prelude.{ℕ, ◌+◌, nat_le, cond, List, length, sum_by, Option, None, Some}

-- a number, where it is at most so large
abbrev pub within : ℕ → ℕ → Option ℕ
within most number = cond (nat_le number most) (Some number) None

-- the sum of two numbers, where both are there and it is at most so large
abbrev pub plus : ℕ → Option ℕ → Option ℕ → Option ℕ
plus most (Some left) (Some right) = within most (left + right)
plus most _ _ = None

-- how many bytes the lines of values have, each a digit, a code and the line's end
abbrev pub values_size : List (List ℕ) → ℕ
values_size codes = sum_by (λ code. length code + 2) codes
