-- The buses among the first names of a netlist's signals, and the trace in which each of them is one vector.
use Rattle.std.specs.Prelude.{ℕ, ◌+◌, ◌-◌, ◌==◌, ◌&&◌, nat_le, nat_lt, not, min, max, Bool as Truth, true, false, cond, zero, suc, List, [], ◌∷◌, ◌++◌, map, length, replicate, slice_index_or, Option, None, Some}
use Rattle.std.specs.List.{flat_map, list_all, range_with_len}
use Rattle.std.specs.Str.{bytes_eq}
use Rattle.netlist.specs.Design.{Design}
use Rattle.netlist.specs.declared.run.Run.{Run}
use Rattle.psl_layer_theory.specs.Buses.{Indexed, indexed}
use Rattle.psl_layer_theory.specs.LookUp.{look_up}
use Rattle.psl_layer_theory.specs.Texts.{indexed_text}
use Rattle.psl_layer_theory.specs.declared.found.Found.{Found}
use Rattle.psl_layer_theory.specs.declared.found.Found.TheVariants as finds
use Rattle.psl_sugar.specs.declared.vector.Bit.{Bit}
use Rattle.psl_tree.specs.declared.name.Name.{Name}
use Rattle.replay.specs.Recorded.{bit_named}
use Rattle.trace.specs.Trace.{first_text}
use Rattle.trace.specs.Vectors.{bits_in, single, vector_at, vector_names, vectors_sampled, vectors_text}
use Rattle.trace.specs.declared.vectors.Vector.{Vector}
use Rattle.vcd_reader.specs.Sampled.{Sampled}
use Rattle.vcd_reader.specs.Shapes.{is_end}
use Rattle.vcd_reader.specs.declared.unknown.Unknown.{Unknown}

-- ---- the names

-- a name of a signal of one bit
abbrev pub bit_name : List ℕ → ℕ → Name
bit_name text signal = record { text = text; signal = signal; left = 0; right = 0 }

-- the first name of each signal, in the order of their numbers
abbrev pub first_names : Design → List Name
first_names design = map (λ signal. bit_name (first_text design.names signal) signal) (range_with_len 0 design.signals)

abbrev pub name_text : List Name → ℕ → List ℕ
name_text names signal = (slice_index_or names signal (bit_name [] 0)).text

-- ---- the indices behind a text

-- the lowest and the highest of some indices, and the first signal, by its number, that has one
pub record Span : Type 0 where
  pub low : ℕ
  pub high : ℕ
  pub first : ℕ

-- with the index of a signal more, which stands before the others
abbrev pub widened : ℕ → ℕ → Option Span → Span
widened signal index None = record { low = index; high = index; first = signal }
widened signal index (Some span) = record { low = min index span.low; high = max index span.high; first = signal }

abbrev pub with_name : List ℕ → ℕ → Option Indexed → Option Span → Option Span
with_name text signal None span = span
with_name text signal (Some name) span = cond (bytes_eq name.text text) (Some (widened signal name.index span)) span

-- the indices that stand behind a text in some names
abbrev pub span_behind : List Name → List ℕ → Option Span
span_behind [] text = None
span_behind (name ∷ more) text = with_name text name.signal (indexed name.text) (span_behind more text)

-- ---- the signals of a bus

-- the one signal whose name is a text
abbrev pub named_by : List Name → List ℕ → Found → Option ℕ
named_by names text finds.Nothing = None
named_by names text (finds.One signal left right) = cond (bytes_eq (name_text names signal) text) (Some signal) None
named_by names text finds.Several = None

abbrev pub signal_named : List Name → List ℕ → Option ℕ
signal_named names text = named_by names text (look_up names text)

-- one number more behind others, where both are there
abbrev pub with_number : Option (List ℕ) → Option ℕ → Option (List ℕ)
with_number (Some numbers) (Some number) = Some (numbers ++ number ∷ [])
with_number _ _ = None

-- the numbers that are there, where each of so many is
abbrev pub gathered : (ℕ → Option ℕ) → ℕ → Option (List ℕ)
gathered number zero = Some []
gathered number (suc count) = with_number (gathered number count) (number count)

-- the signals of the indices of a text, from one down, as many as asked for; none where an index has no signal or several
abbrev pub signals_down : List Name → List ℕ → ℕ → ℕ → Option (List ℕ)
signals_down names text high count = gathered (λ distance. signal_named names (indexed_text text (high - distance))) count

-- nothing is found under a text
abbrev pub is_nothing : Found → Truth
is_nothing finds.Nothing = true
is_nothing (finds.One signal left right) = false
is_nothing finds.Several = false

-- a text with several indices that can be declared, and is not found as a name
abbrev pub may_be_bus : List Name → List ℕ → Span → Truth
may_be_bus names text span =
    nat_lt span.low span.high && (nat_lt 0 (length text) && (not (is_end text) && is_nothing (look_up names text)))

abbrev pub vector_of : List ℕ → Span → Option (List ℕ) → Option Vector
vector_of text span None = None
vector_of text span (Some signals) = Some (record { text = text; high = span.high; low = span.low; signals = signals })

-- a bus: each index from the lowest to the highest has just one signal
abbrev pub bus_of : List Name → List ℕ → Span → Option Vector
bus_of names text span =
    cond (may_be_bus names text span) (vector_of text span (signals_down names text span.high (span.high - span.low + 1))) None

-- the bus whose first signal this is
abbrev pub bus_from : List Name → ℕ → List ℕ → Option Span → Option Vector
bus_from names signal text None = None
bus_from names signal text (Some span) = cond (span.first == signal) (bus_of names text span) None

abbrev pub bus_behind : List Name → ℕ → Option Indexed → Option Vector
bus_behind names signal None = None
bus_behind names signal (Some name) = bus_from names signal name.text (span_behind names name.text)

abbrev pub bus_at : List Name → ℕ → Option Vector
bus_at names signal = bus_behind names signal (indexed (name_text names signal))

abbrev pub all_buses : List Name → List (Option Vector)
all_buses names = map (bus_at names) (range_with_len 0 (length names))

-- ---- signals and buses in order

-- the first of the signals that have a signal's text before their indices
abbrev pub first_in : ℕ → Option Span → ℕ
first_in signal None = signal
first_in signal (Some span) = span.first

abbrev pub first_behind : List Name → ℕ → Option Indexed → ℕ
first_behind names signal None = signal
first_behind names signal (Some name) = first_in signal (span_behind names name.text)

abbrev pub first_of : List Name → ℕ → ℕ
first_of names signal = first_behind names signal (indexed (name_text names signal))

-- a signal alone, or the bus whose first signal it is, or nothing more of its bus
abbrev pub written : List Name → ℕ → ℕ → Option Vector → List Vector
written names signal first None = single (name_text names signal) signal ∷ []
written names signal first (Some bus) = cond (first == signal) (bus ∷ []) []

-- the bus of a first signal, where it is kept
abbrev pub kept_bus : List Truth → List (Option Vector) → ℕ → Option Vector
kept_bus kept buses first = cond (slice_index_or kept first false) (slice_index_or buses first None) None

abbrev pub written_at : List Name → List Truth → ℕ → List Vector
written_at names kept signal = written names signal (first_of names signal) (kept_bus kept (all_buses names) (first_of names signal))

-- a bus stands where the first of its signals does
abbrev pub vectors_with : List Name → List Truth → List Vector
vectors_with names kept = flat_map (written_at names kept) (range_with_len 0 (length names))

-- ---- signals that are found again

-- the bit is that of a signal: its place counts from the right
abbrev pub carries : List Vector → ℕ → Option Bit → Truth
carries vectors signal None = false
carries vectors signal (Some bit) =
    nat_lt bit.place (length (vector_at vectors bit.signal).signals)
    && (slice_index_or (vector_at vectors bit.signal).signals (length (vector_at vectors bit.signal).signals - 1 - bit.place) 0 == signal)

-- under its first name a signal is found among vectors as `replay` finds it
abbrev pub is_carried : List Name → List Vector → ℕ → Truth
is_carried names vectors signal = carries vectors signal (bit_named (vector_names vectors) (name_text names signal))

abbrev pub is_kept : List Name → List Vector → Option Vector → Truth
is_kept names vectors None = false
is_kept names vectors (Some bus) = list_all (is_carried names vectors) bus.signals

-- all buses, and whether each signal of one is found among them
abbrev pub all_kept : List Name → List Truth
all_kept names = replicate (length names) true

abbrev pub found_kept : List Name → List Truth
found_kept names = map (λ signal. is_kept names (vectors_with names (all_kept names)) (slice_index_or (all_buses names) signal None)) (range_with_len 0 (length names))

-- vectors of no more bits than there are signals, among which each signal is found
abbrev pub is_exact : List Name → List Vector → Truth
is_exact names vectors = nat_le (bits_in vectors) (length names) && list_all (is_carried names vectors) (range_with_len 0 (length names))

-- each signal alone
abbrev pub alone : List Name → List Vector
alone names = map (λ signal. single (name_text names signal) signal) (range_with_len 0 (length names))

-- the vectors that some are, where they are exact; else each signal alone
abbrev pub exact_or_alone : List Name → List Vector → List Vector
exact_or_alone names vectors = cond (is_exact names vectors) vectors (alone names)

abbrev pub vectors_among : List Name → List Vector
vectors_among names = exact_or_alone names (vectors_with names (found_kept names))

-- The vectors of a netlist's signals: a bus is written together where each of its signals is found by its first name beside
-- all other buses.
abbrev pub vectors_in : Design → List Vector
vectors_in design = vectors_among (first_names design)

-- ---- the trace

-- the trace of a run in which buses are vectors, and what it says
abbrev pub buses_text : Design → Run → ℕ → List ℕ
buses_text design run loops = vectors_text (vectors_in design) run loops

abbrev pub buses_sampled : Unknown → Design → Run → ℕ → Sampled
buses_sampled unknown design run loops = vectors_sampled unknown (vectors_in design) run loops
