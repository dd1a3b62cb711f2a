-- Where the first names of signals stand among names.
use Rattle.std.specs.Prelude.{◌≡◌, ℕ, ◌<◌, List, slice_get, slice_index}
use Rattle.psl_tree.specs.Names.{first_name}
use Rattle.psl_tree.specs.declared.name.Name.{Name}

-- by the number of a signal, the place of its first name
abbrev pub TellsFirst : List Name → ℕ → List ℕ → Type 0
TellsFirst names signals first = (signal : ℕ) → signal < signals → first_name names signal ≡ slice_get names (slice_index first signal)
