-- The value of digits.
use Rattle.std.specs.Prelude.{ℕ, ◌+◌, ◌*◌, ◌^◌, List, [], ◌∷◌, Bool, ◌==◌, ◌||◌, nat_lt, nat_le, if◌then◌else◌}
use Rattle.psl_lexer.specs.Bytes.{digit_of}

-- a number with one more digit of a base at its end, or with one more `_`, which says nothing
abbrev pub with_digit : ℕ → ℕ → ℕ → ℕ
with_digit base number byte = if byte == 95 then number else number * base + digit_of byte

-- the number that digits say, with a number before them
abbrev pub value_after : ℕ → ℕ → List ℕ → ℕ
value_after base before [] = before
value_after base before (byte ∷ bytes) = value_after base (with_digit base before byte) bytes

-- the number that digits of a base say
abbrev pub value_of : ℕ → List ℕ → ℕ
value_of base bytes = value_after base 0 bytes

-- a number past 2^64 - 1
abbrev pub is_past_number : ℕ → Bool
is_past_number value = nat_le (2 ^ 64) value

-- a constant's size is 0 or past 64, or its value needs more bits than its size
unfoldable pub is_past_size : ℕ → ℕ → Bool
is_past_size size value = (size == 0) || nat_lt 64 size || nat_le (2 ^ size) value
