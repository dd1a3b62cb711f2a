-- Buses: signals of one bit whose names are one text with indices behind it, as `count[3]`, `count[2]`, `count[1]` and
-- `count[0]`. Where the text is no name itself, it stands for their bits as for a vector, the highest index leftmost.
use Rattle.std.specs.Prelude.{ℕ, ◌+◌, ◌-◌, ◌==◌, ◌&&◌, nat_lt, not, min, max, Bool as Truth, true, false, cond, if◌then◌else◌, List, [], ◌∷◌, length, map, take, drop, slice_index, Option, None, Some}
use Rattle.std.specs.List.{flat_map, list_any, range_with_len}
use Rattle.std.specs.Option.{option_map, option_and_then}
use Rattle.std.specs.Str.{bytes_eq}
use Rattle.psl_base.specs.Decimals.{plain_upto}
use Rattle.psl_sugar.specs.Vectors.{only_bit}
use Rattle.psl_tree.specs.declared.name.Name.{Name}
use Rattle.psl_layer_theory.specs.LookUp.{look_up, named}
use Rattle.psl_layer_theory.specs.Texts.{indexed_text}
use Rattle.psl_layer_theory.specs.declared.found.Found.{Found}
use Rattle.psl_layer_theory.specs.declared.found.Found.TheVariants as finds
use Rattle.psl_layer_theory.specs.declared.found.Reference.{Reference}
use Rattle.psl_layer_theory.specs.declared.found.Reference.TheVariants as references

-- the highest index of a bit, as in recordings
abbrev pub index_most : ℕ
index_most = 2147483647

-- the place of the last `[` of a text, before which so many bytes stand, or an older one
abbrev pub last_bracket : Option ℕ → ℕ → List ℕ → Option ℕ
last_bracket old at [] = old
last_bracket old at (byte ∷ bytes) = last_bracket (cond (byte == 91) (Some at) old) (at + 1) bytes

-- the index before `]`, where that is the last byte: decimal digits without a leading zero
abbrev pub index_before_end : List ℕ → Option ℕ
index_before_end text =
    cond (nat_lt 0 (length text) && (slice_index text (length text - 1) == 93)) (plain_upto index_most (take (length text - 1) text)) None

-- a text, and the index in square brackets behind it
pub record Indexed : Type 0 where
  pub text : List ℕ
  pub index : ℕ

-- A name as a text with an index behind it, if it is one: digits have no `[`, so the last one opens the index.
abbrev pub indexed : List ℕ → Option Indexed
indexed name =
    option_and_then (λ at. option_map (λ index. record { text = take at name; index = index }) (index_before_end (drop (at + 1) name)))
    (last_bracket None 0 name)

-- the lowest and the highest of some indices
pub record Indices : Type 0 where
  pub low : ℕ
  pub high : ℕ

-- with one index more
abbrev pub widened : ℕ → Option Indices → Indices
widened index None = record { low = index; high = index }
widened index (Some range) = record { low = min index range.low; high = max index range.high }

-- the indices behind a text, with that of one name more
abbrev pub with_name : List ℕ → Option Indexed → Option Indices → Option Indices
with_name text None range = range
with_name text (Some name) range = if bytes_eq name.text text then Some (widened name.index range) else range

-- the lowest and the highest index that stand behind a text in some names
abbrev pub indices_behind : List Name → List ℕ → Option Indices
indices_behind [] text = None
indices_behind (name ∷ more) text = with_name text (indexed name.text) (indices_behind more text)

-- a text as a name with a range, told once, at the lowest index
abbrev pub bus_at : Indexed → Option Indices → List Name
bus_at name None = []
bus_at name (Some range) =
    if name.index == range.low then record { text = name.text; signal = 0; left = range.high; right = range.low } ∷ [] else []

abbrev pub bus_named : List Name → Option Indexed → List Name
bus_named names None = []
bus_named names (Some name) = bus_at name (indices_behind names name.text)

-- each text behind which indices stand, as a name with the range from the highest of them down to the lowest
abbrev pub bus_names : List Name → List Name
bus_names names = flat_map (λ name. bus_named names (indexed name.text)) names

-- What stands at an index of a text: what the text with the index finds. Where a name has the very text, so has that of each
-- index: another one that only ends with it is no bit of the bus.
abbrev pub bit_behind : List Name → List ℕ → Truth → ℕ → Found
bit_behind names text is_whole index =
    if is_whole then named names (indexed_text text index) else look_up names (indexed_text text index)

-- some name is matched
abbrev pub is_found : Found → Truth
is_found finds.Nothing = false
is_found (finds.One signal left right) = true
is_found finds.Several = true

-- no signal of one bit
abbrev pub is_hole : Found → Truth
is_hole finds.Nothing = true
is_hole (finds.One signal left right) = not (left == right)
is_hole finds.Several = false

-- more than one signal
abbrev pub is_several : Found → Truth
is_several finds.Nothing = false
is_several (finds.One signal left right) = false
is_several finds.Several = true

-- the signal that was found
abbrev pub signal_in : Found → ℕ
signal_in finds.Nothing = 0
signal_in (finds.One signal left right) = signal
signal_in finds.Several = 0

-- The bits that were found at each index, the lowest first: there is one signal of one bit at each.
abbrev pub joined : List Found → Reference
joined bits =
    if list_any is_hole bits then references.Nothing
    else if list_any is_several bits then references.Several
    else references.Bits (map (λ found. only_bit (signal_in found)) bits)

-- what stands at the indices of a range
abbrev pub bits_behind : List Name → List ℕ → ℕ → ℕ → List Found
bits_behind names text high low =
    map (bit_behind names text (is_found (named names (indexed_text text low)))) (range_with_len low (high - low + 1))

-- The bus that a text stands for, by what it finds among the buses: several of one range may be one, bit by bit.
abbrev pub bus_over : List Name → List ℕ → Found → Reference
bus_over names text finds.Nothing = references.Nothing
bus_over names text (finds.One signal high low) = joined (bits_behind names text high low)
bus_over names text finds.Several = references.Several

abbrev pub bus : List Name → List ℕ → Reference
bus names text = bus_over names text (look_up (bus_names names) text)
