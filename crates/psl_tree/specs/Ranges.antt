-- Ranges of indices.
use Rattle.std.specs.Prelude.{ℕ, ◌+◌, ◌-◌}

-- how many indices there are from one to another
abbrev pub index_count : ℕ → ℕ → ℕ
index_count left right = (left - right) + (right - left) + 1
