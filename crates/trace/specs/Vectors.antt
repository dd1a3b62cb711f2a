-- The trace of a run in which some signals are written together, as vectors: as text, and as what it says.
use Rattle.std.specs.Prelude.{◌≡◌, ℕ, ◌+◌, ◌-◌, ◌==◌, ◌<◌, ◌≤◌, ◌⊎◌, Bool, not, false, cond, List, [], ◌∷◌, ◌++◌, map, length, sum_by, slice_index_or, decimal, Option, Some, codes}
use Rattle.std.specs.List.{flat_map, range_with_len}
use Rattle.netlist.specs.Design.{Design}
use Rattle.netlist.specs.Valuations.{bit}
use Rattle.netlist.specs.declared.run.Run.{Run}
use Rattle.psl_tree.specs.declared.name.Name.{Name}
use Rattle.trace.specs.Codes.{code_of}
use Rattle.trace.specs.Printed.{printed}
use Rattle.trace.specs.Trace.{count_of, first_text, valuation_in}
use Rattle.trace.specs.Words.{IsWord}
use Rattle.trace.specs.declared.vectors.Vector.{Vector}
use Rattle.vcd_reader.specs.Meaning.{places_in}
use Rattle.vcd_reader.specs.Ranges.{index_most}
use Rattle.vcd_reader.specs.Sampled.{Sampled}
use Rattle.vcd_reader.specs.Shapes.{is_end}
use Rattle.vcd_reader.specs.declared.unknown.Unknown.{Unknown}
use Rattle.vcd_writer.specs.Lines.{digit, line}

abbrev pub no_vector : Vector
no_vector = record { text = []; high = 0; low = 0; signals = [] }

abbrev pub vector_at : List Vector → ℕ → Vector
vector_at vectors number = slice_index_or vectors number no_vector

-- several signals have a range of indices behind their text
abbrev pub is_wide : Vector → Bool
is_wide vector = not (vector.high == vector.low)

-- how many signals there are in vectors
abbrev pub bits_in : List Vector → ℕ
bits_in vectors = sum_by (λ vector. length vector.signals) vectors

-- ---- the definitions

-- the range of indices, the highest leftmost
abbrev pub range_text : ℕ → ℕ → List ℕ
range_text high low = codes "[" ++ decimal high ++ codes ":" ++ decimal low ++ codes "]"

-- how a vector is named: its text and its range; or one signal as in a trace without vectors
abbrev pub reference_text : Vector → List ℕ
reference_text vector = cond (is_wide vector) (vector.text ++ codes " " ++ range_text vector.high vector.low) (printed vector.text)

abbrev pub vector_declaration : List Vector → ℕ → List ℕ
vector_declaration vectors number =
    line (codes "$var wire " ++ decimal (length (vector_at vectors number).signals) ++ codes " " ++ code_of number ++ codes " " ++ reference_text (vector_at vectors number) ++ codes " $end")

-- the declarations of the first vectors
abbrev pub vector_declarations : List Vector → ℕ → List ℕ
vector_declarations vectors count = flat_map (vector_declaration vectors) (range_with_len 0 count)

-- ---- the values

-- the values of a vector's signals, the leftmost first
abbrev pub vector_letters : Vector → List Bool → List ℕ
vector_letters vector values = map (λ signal. digit (bit values signal)) vector.signals

-- a value and a code: `b` before several digits, and a space behind them
abbrev pub value_text : Bool → List ℕ → List ℕ → List ℕ
value_text wide letters code = cond wide (98 ∷ (letters ++ 32 ∷ code)) (letters ++ code)

abbrev pub vector_line : List Vector → List Bool → ℕ → List ℕ
vector_line vectors values number =
    line (value_text (is_wide (vector_at vectors number)) (vector_letters (vector_at vectors number) values) (code_of number))

-- the values of the first vectors
abbrev pub vector_lines : List Vector → List Bool → ℕ → List ℕ
vector_lines vectors values count = flat_map (vector_line vectors values) (range_with_len 0 count)

abbrev pub vector_sample : List Vector → Run → ℕ → List ℕ
vector_sample vectors run sample = line (35 ∷ decimal sample) ++ vector_lines vectors (valuation_in run sample) (length vectors)

abbrev pub vector_samples : List Vector → Run → ℕ → List ℕ
vector_samples vectors run count = flat_map (vector_sample vectors run) (range_with_len 0 count)

-- The trace of a run as vectors: the definitions, and then, for each valuation of the stem and of the loop so many times,
-- its number from 0 as a time, and a line for each vector.
abbrev pub vectors_text : List Vector → Run → ℕ → List ℕ
vectors_text vectors run loops =
    vector_declarations vectors (length vectors) ++ line (codes "$enddefinitions $end") ++ vector_samples vectors run (count_of run loops)

-- ---- what it says

abbrev pub name_of : Vector → ℕ → Name
name_of vector number = record {
  text = cond (is_wide vector) vector.text (printed vector.text);
  signal = number;
  left = vector.high;
  right = vector.low;
}

abbrev pub vector_name : List Vector → ℕ → Name
vector_name vectors number = name_of (vector_at vectors number) number

-- the names that are declared
abbrev pub vector_names : List Vector → List Name
vector_names vectors = map (vector_name vectors) (range_with_len 0 (length vectors))

-- the letters of all vectors
abbrev pub vector_words : List Vector → List Bool → List (List ℕ)
vector_words vectors values = map (λ number. vector_letters (vector_at vectors number) values) (range_with_len 0 (length vectors))

abbrev pub all_given : List (List ℕ) → List (Option (List ℕ))
all_given words = map (λ word. Some word) words

-- what the trace says: at each sample, whose time is its number, each vector has the values of its signals
abbrev pub vectors_sampled : Unknown → List Vector → Run → ℕ → Sampled
vectors_sampled unknown vectors run loops = record {
  names = vector_names vectors;
  samples = map (λ sample. all_given (vector_words vectors (valuation_in run sample))) (range_with_len 0 (count_of run loops));
  times = range_with_len 0 (count_of run loops);
  places = places_in (vectors_text vectors run loops);
  unknown = unknown;
}

-- ---- one vector for each signal

-- the signals of a netlist, each alone, by its first name
abbrev pub single : List ℕ → ℕ → Vector
single text signal = record { text = text; high = 0; low = 0; signals = signal ∷ [] }

abbrev pub singles : Design → List Vector
singles design = map (λ signal. single (first_text design.names signal) signal) (range_with_len 0 design.signals)

-- ---- vectors that can be read

-- one signal, and several with as many indices, whose text is no end of a section
pub record IsBit (vector : Vector) : Type 0 where
  pub high : vector.high ≡ 0
  pub low : vector.low ≡ 0
  pub one : length vector.signals ≡ 1

pub record IsBus (vector : Vector) : Type 0 where
  pub falls : vector.low < vector.high
  pub most : vector.high ≤ index_most
  pub each : length vector.signals ≡ vector.high - vector.low + 1
  pub goes_on : is_end vector.text ≡ false

pub record IsVector (vector : Vector) : Type 0 where
  pub word : IsWord vector.text
  pub either : IsBit vector ⊎ IsBus vector
