-- How a name is printed in a trace, so that it is read as that of a signal of one bit.
use Rattle.std.specs.Prelude.{ℕ, ◌+◌, ◌-◌, ◌==◌, nat_lt, Bool, false, ◌&&◌, ◌||◌, cond, List, [], ◌∷◌, ◌++◌, length, take, drop, slice_index, Option, None, Some}
use Rattle.std.specs.List.{position_from}
use Rattle.std.specs.Str.{bytes_eq}
use Rattle.psl_base.specs.Decimals.{are_digits}
use Rattle.vcd_reader.specs.Ranges.{last_bracket}
use Rattle.vcd_reader.specs.Shapes.{is_end}

-- digits without the zeros that lead
abbrev pub significant : List ℕ → List ℕ
significant [] = []
significant (digit ∷ digits) = cond (digit == 48) (significant digits) (digit ∷ digits)

-- two texts are decimal numbers, and equal
abbrev pub are_one_number : List ℕ → List ℕ → Bool
are_one_number left right = are_digits left && (are_digits right && bytes_eq (significant left) (significant right))

-- what stands before a `]`, where that is the last byte; else nothing
abbrev pub before_end : List ℕ → List ℕ
before_end text = cond (nat_lt 0 (length text) && (slice_index text (length text - 1) == 93)) (take (length text - 1) text) []

-- `m:l]`, where `m` and `l` are decimal numbers and equal, the `:` standing there
abbrev pub is_one_index : List ℕ → Option ℕ → Bool
is_one_index text None = false
is_one_index text (Some colon) = are_one_number (take colon text) (before_end (drop (colon + 1) text))

-- the text ends in `[m:l]`, where `m` and `l` are decimal numbers and equal; the last `[` stands there
abbrev pub ends_at : List ℕ → Option ℕ → Bool
ends_at text None = false
ends_at text (Some at) = is_one_index (drop (at + 1) text) (position_from (λ byte. byte == 58) 0 (drop (at + 1) text))

abbrev pub ends_in_one_index : List ℕ → Bool
ends_in_one_index text = ends_at text (last_bracket None 0 text)

-- a name with `_` behind it where it is `$end`, or its end would be read as a range of one index
abbrev pub printed : List ℕ → List ℕ
printed name = cond (is_end name || ends_in_one_index name) (name ++ 95 ∷ []) name
