-- What stands in a slice of truth values from a place on.
use Rattle.std.specs.Prelude.{ℕ, zero, suc, ◌+◌, ◌*◌, Bool as Truth, true, false, if◌then◌else◌, List, map, filter, count_by, slice_index_or}
use Rattle.std.specs.List.{range_with_len}

-- so many values from a place on
abbrev pub bits_from : List Truth → ℕ → ℕ → List Truth
bits_from values start count = map (λ number. slice_index_or values (start + number) false) (range_with_len 0 count)

-- the numbers of those that are true, and how many these are
abbrev pub numbers_from : List Truth → ℕ → ℕ → List ℕ
numbers_from values start count = filter (λ number. slice_index_or values (start + number) false) (range_with_len 0 count)

abbrev pub count_from : List Truth → ℕ → ℕ → ℕ
count_from values start count = count_by (λ number. slice_index_or values (start + number) false) (range_with_len 0 count)

-- the first of so many positions, from one on, at which a value is true that stands at a place among those of a
-- position; or the position behind them if there is none
abbrev pub first_true : List Truth → ℕ → ℕ → ℕ → ℕ → ℕ
first_true values size place zero position = position
first_true values size place (suc count) position =
    if slice_index_or values (position * size + place) false then position
    else first_true values size place count (suc position)

-- how many states a path of a kind has: up to that position, or one more than the window
abbrev pub count_in : List Truth → ℕ → ℕ → ℕ → Truth → ℕ
count_in values size place window true = suc (first_true values size place window 0)
count_in values size place window false = suc window
