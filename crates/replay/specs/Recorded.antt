-- What a recording says of the signals of a netlist.
use Rattle.std.specs.Prelude.{ℕ, ◌<◌, ◌==◌, ◌&&◌, nat_lt, Bool as Truth, false, cond, List, map, length, Option, None, Some, is_none}
use Rattle.std.specs.List.{find}
use Rattle.netlist.specs.Design.{Design, free_of}
use Rattle.netlist.specs.Valuations.{IsFilled}
use Rattle.psl_layer_theory.specs.Buses.{Indexed, indexed}
use Rattle.psl_layer_theory.specs.LookUp.{look_up}
use Rattle.psl_layer_theory.specs.References.{distance, is_index}
use Rattle.psl_layer_theory.specs.declared.found.Found.{Found}
use Rattle.psl_layer_theory.specs.declared.found.Found.TheVariants as finds
use Rattle.psl_sugar.specs.Vectors.{bit_of_signal, only_bit}
use Rattle.psl_sugar.specs.declared.vector.Bit.{Bit}
use Rattle.psl_tree.specs.Ranges.{index_count}
use Rattle.psl_tree.specs.declared.name.Name.{Name}
use Rattle.trace.specs.Trace.{first_text}
use Rattle.vcd_reader.specs.Sampled.{Sampled, bit_at}

-- the bit of what was found, where that is one signal of one bit
abbrev pub bit_found : Found → Option Bit
bit_found finds.Nothing = None
bit_found (finds.One signal left right) = cond (index_count left right == 1) (Some (only_bit signal)) None
bit_found finds.Several = None

-- the bit of what was found that has an index, where that is one signal of several bits: its place is the distance of the
-- index from the right end of the range
abbrev pub bit_with_index : Found → ℕ → Option Bit
bit_with_index finds.Nothing index = None
bit_with_index (finds.One signal left right) index =
    cond (nat_lt 1 (index_count left right) && is_index left right index) (Some (bit_of_signal signal (distance index right))) None
bit_with_index finds.Several index = None

-- the bit that a text with an index behind it stands for
abbrev pub bit_indexed : List Name → Option Indexed → Option Bit
bit_indexed names None = None
bit_indexed names (Some name) = bit_with_index (look_up names name.text) name.index

-- the bit that a text stands for, by what the whole of it finds: one with an index behind it where that is nothing
abbrev pub bit_or_indexed : List Name → List ℕ → Found → Option Bit
bit_or_indexed names text finds.Nothing = bit_indexed names (indexed text)
bit_or_indexed names text (finds.One signal left right) = bit_found (finds.One signal left right)
bit_or_indexed names text finds.Several = None

abbrev pub bit_named : List Name → List ℕ → Option Bit
bit_named names text = bit_or_indexed names text (look_up names text)

-- the one bit of a recording that a signal of the netlist stands for, by its first name
abbrev pub recorded : Design → Sampled → ℕ → Option Bit
recorded design recording signal = bit_named recording.names (first_text design.names signal)

-- the first input or latch, as the netlist lists them, that stands for none
abbrev pub first_missing : Design → Sampled → Option ℕ
first_missing design recording = find (λ signal. is_none (recorded design recording signal)) (free_of design)

-- the value of a recorded bit at a sample; 0 where there is no such bit
abbrev pub value_of : Sampled → ℕ → Option Bit → Truth
value_of recording sample None = false
value_of recording sample (Some bit) = bit_at recording sample bit.signal bit.place

-- the value of a signal of the netlist
abbrev pub value_at : Design → Sampled → ℕ → ℕ → Truth
value_at design recording sample signal = value_of recording sample (recorded design recording signal)

-- the values of inputs and latches at a sample
abbrev pub free_at : Design → Sampled → ℕ → List Truth
free_at design recording sample = map (value_at design recording sample) (free_of design)

-- for each sample the valuation that the recorded inputs and latches give
abbrev pub AreComputed : Design → Sampled → (ℕ → List Truth) → Type 0
AreComputed design recording valuations = (sample : ℕ) → sample < length recording.samples → IsFilled design (free_at design recording sample) (valuations sample)
