-- Where a recording leaves a netlist.
use Rattle.std.specs.Prelude.{◌≡◌, ℕ, zero, suc, ◌+◌, ◌<◌, ◌≤◌, ◌⊎◌, nat_lt, Bool as Truth, true, false, not, cond, List, [], ◌∷◌, ◌++◌, map, length, Option, None, Some}
use Rattle.std.specs.List.{filter}
use Rattle.netlist.specs.Design.{Design}
use Rattle.netlist.specs.Valuations.{bit}
use Rattle.netlist.specs.declared.latch.Init.{Init}
use Rattle.netlist.specs.declared.latch.Init.TheVariants as inits
use Rattle.netlist.specs.declared.latch.Latch.{Latch}
use Rattle.netlist.specs.declared.table.Table.{Table}
use Rattle.psl_sugar.specs.declared.vector.Bit.{Bit}
use Rattle.replay.specs.Recorded.{recorded, value_at, value_of}
use Rattle.vcd_reader.specs.Sampled.{Sampled}

-- the two values differ
abbrev pub differ : Truth → Truth → Truth
differ false other = other
differ true other = not other

-- a value is not the first one of a latch
abbrev pub differs_from : Init → Truth → Truth
differs_from inits.Zero value = value
differs_from inits.One value = not value
differs_from inits.Free value = false

-- A latch leaves the netlist at the first sample where it has not its first value, and at a later one where it has not
-- the value that its input has at the sample before, by the valuation there.
abbrev pub latch_leaves : Design → Sampled → (ℕ → List Truth) → ℕ → Latch → Truth
latch_leaves design recording valuations zero latch = differs_from latch.init (value_at design recording 0 latch.output)
latch_leaves design recording valuations (suc sample) latch = differ (value_at design recording (suc sample) latch.output) (bit (valuations sample) latch.input)

-- A table leaves it where its output is one bit of the recording, and has not the value that its rows say.
abbrev pub output_leaves : Sampled → List Truth → ℕ → ℕ → Option Bit → Truth
output_leaves recording valuation sample output None = false
output_leaves recording valuation sample output (Some found) = differ (value_of recording sample (Some found)) (bit valuation output)

abbrev pub table_leaves : Design → Sampled → (ℕ → List Truth) → ℕ → Table → Truth
table_leaves design recording valuations sample table = output_leaves recording (valuations sample) sample table.output (recorded design recording table.output)

-- the signals that leave the netlist at a sample
abbrev pub leaving : Design → Sampled → (ℕ → List Truth) → ℕ → List ℕ
leaving design recording valuations sample =
    map (λ latch. latch.output) (filter (latch_leaves design recording valuations sample) design.latches)
    ++ map (λ table. table.output) (filter (table_leaves design recording valuations sample) design.tables)

-- a signal leaves it there
abbrev pub IsOneOf : ℕ → List ℕ → Type 0
IsOneOf number [] = ⊥
IsOneOf number (other ∷ numbers) = (other ≡ number) ⊎ IsOneOf number numbers

abbrev pub LeavesAt : Design → Sampled → (ℕ → List Truth) → ℕ → ℕ → Type 0
LeavesAt design recording valuations sample signal = IsOneOf signal (leaving design recording valuations sample)

-- a signal leaves it at a sample of the recording, none with a lower number does there, and none at an earlier sample
pub record IsFirst (design : Design) (recording : Sampled) (valuations : ℕ → List Truth) (sample signal : ℕ) : Type 0 where
  pub within : sample < length recording.samples
  pub leaves : LeavesAt design recording valuations sample signal
  pub lowest : (other : ℕ) → LeavesAt design recording valuations sample other → signal ≤ other
  pub before : (earlier other : ℕ) → earlier < sample → LeavesAt design recording valuations earlier other → ⊥

-- where a recording leaves a netlist: there first, or nowhere
abbrev pub LeavesFirst : Design → Sampled → (ℕ → List Truth) → Option (ℕ × ℕ) → Type 0
LeavesFirst design recording valuations None =
    (sample signal : ℕ) → sample < length recording.samples → LeavesAt design recording valuations sample signal → ⊥
LeavesFirst design recording valuations (Some (sample, signal)) = IsFirst design recording valuations sample signal

-- How that is searched for: what the code is proved against, and what examples are computed by. That it is just this is a
-- law (`first_law`).

-- the lower of a number and another, where that is there
abbrev pub lower : Option ℕ → ℕ → Option ℕ
lower None number = Some number
lower (Some other) number = Some (cond (nat_lt number other) number other)

-- the lowest of some numbers, or of them and an older one
abbrev pub lowest : Option ℕ → List ℕ → Option ℕ
lowest old [] = old
lowest old (number ∷ numbers) = lowest (lower old number) numbers

-- a signal at a sample, where there is one, else what comes later
abbrev pub first_of : ℕ → Option ℕ → Option (ℕ × ℕ) → Option (ℕ × ℕ)
first_of sample None later = later
first_of sample (Some signal) later = Some (sample, signal)

-- the first sample from one on, of so many, where a signal leaves the netlist, and the first such signal there, by its number
abbrev pub first_from : (ℕ → List ℕ) → ℕ → ℕ → Option (ℕ × ℕ)
first_from leaving sample zero = None
first_from leaving sample (suc count) = first_of sample (lowest None (leaving sample)) (first_from leaving (sample + 1) count)

-- the first sample of a recording where a signal leaves the netlist, and the first such signal
abbrev pub leaves : Design → Sampled → (ℕ → List Truth) → Option (ℕ × ℕ)
leaves design recording valuations = first_from (leaving design recording valuations) 0 (length recording.samples)
