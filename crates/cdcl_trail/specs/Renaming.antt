-- Clauses by number, whose literals have other names.
use Rattle.std.specs.Prelude.{◌≡◌, ◌≢◌, ℕ, ◌<◌, List, map, length, slice_index_or, Option}
use Rattle.std.specs.Option.{option_map}

-- the same clauses, but for the names of their literals
abbrev pub Renames : {A B : Type 0} → (A → B) → (ℕ → Option (List A)) → (ℕ → Option (List B)) → Type 0
Renames name old new = (number : ℕ) → new number ≡ option_map (map name) (old number)

-- nothing stands twice in a list
abbrev pub IsOnce : {A : Type 0} → List A → Type 0
IsOnce xs = (place other : ℕ) (d : _) → place < other → other < length xs → slice_index_or xs place d ≢ slice_index_or xs other d
