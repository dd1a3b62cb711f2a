-- What the program keeps of the indices behind texts.
use Rattle.std.specs.Prelude.{◌≡◌, ℕ, List, [], Option, None, Some}
use Rattle.std.specs.BTreeMap.{BTreeMap, get_by}
use Rattle.std.specs.Borrow.{Bor}
use Rattle.std.specs.Cmp.Lexicographic.{slice_cmp}
use Rattle.std.specs.Option.{option_map}
use Rattle.std.specs.Ordering.{nat_cmp}
use Rattle.psl_tree.specs.declared.name.Name.{Name}
use Rattle.psl_layer_theory.specs.Buses as spec
use Rattle.psl_names.specs.declared.buses.Indices as code_indices
use Rattle.psl_names.specs.declared.split.Indexed as code_indexed

-- a text and the index behind it
abbrev pub indexed_in : code_indexed.Indexed → spec.Indexed
indexed_in name = record { text = name.text.now; index = name.index }

-- the lowest and the highest of some indices
abbrev pub range_in : code_indices.Indices → spec.Indices
range_in range = record { low = range.low; high = range.high }

abbrev pub option_range : Option (Bor code_indices.Indices) → Option spec.Indices
option_range range = option_map (λ range. range_in range.now) range

abbrev pub Ranges : Type 0
Ranges = BTreeMap (Bor (List ℕ)) code_indices.Indices

-- the range at a text
abbrev pub range_at : Ranges → List ℕ → Option spec.Indices
range_at ranges text = option_map range_in (get_by (λ key. slice_cmp nat_cmp text key.now) ranges)

-- at each text there is the range of the indices behind it in some names
abbrev pub Tells : Ranges → List Name → Type 0
Tells ranges names = (text : List ℕ) → range_at ranges text ≡ spec.indices_behind names text

-- the bus of a name that has its lowest index, if it is one
abbrev pub bus_told : Ranges → Option spec.Indexed → List Name
bus_told ranges None = []
bus_told ranges (Some name) = spec.bus_at name (range_at ranges name.text)
