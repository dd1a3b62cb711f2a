-- The order of texts that are read from their right ends.
use Rattle.std.specs.Prelude.{ℕ, ◌-◌, List, [], ◌∷◌, ◌++◌, length, slice_index_or, reverse}
use Rattle.std.specs.Cmp.Lexicographic.{slice_cmp}
use Rattle.std.specs.Ordering.{nat_cmp}
use Rattle.std.specs.declared.cmp.Ordering.{Ordering}

-- a text read from the right, with a dot before its first byte
abbrev pub backward : List ℕ → List ℕ
backward text = reverse text ++ 46 ∷ []

-- how two texts compare that are read from the right, each with a dot before its first byte
abbrev pub compare_ends : List ℕ → List ℕ → Ordering
compare_ends first second = slice_cmp nat_cmp (backward first) (backward second)

-- the last byte of a text, or the dot before it
abbrev pub last_or_dot : List ℕ → ℕ
last_or_dot text = slice_index_or text (length text - 1) 46
