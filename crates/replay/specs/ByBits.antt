-- What leaves a netlist at a sample, by the recorded bits of its signals and the values of these.
use Rattle.std.specs.Prelude.{ℕ, Bool as Truth, ◌&&◌, cond, List, map, Option, None, All, is_none, is_some, slice_index_or}
use Rattle.std.specs.List.{filter, find}
use Rattle.std.specs.Option.{IfSome}
use Rattle.netlist.specs.Valuations.{bit}
use Rattle.netlist.specs.declared.latch.Latch.{Latch}
use Rattle.netlist.specs.declared.table.Table.{Table}
use Rattle.psl_sugar.specs.declared.vector.Bit.{Bit}
use Rattle.psl_tree.specs.Names.{AtomInRange}
use Rattle.psl_tree.specs.declared.atom.Atom.{Atom}
use Rattle.psl_tree.specs.declared.atom.Edge.TheVariants.{Value}
use Rattle.psl_tree.specs.declared.name.Name.{Name}
use Rattle.replay.specs.Leaving.{differ, differs_from, lowest}

-- what is asked of a bit
abbrev pub atom_of : Bit → Atom
atom_of bit = record { signal = bit.signal; bit = bit.place; edge = Value }

-- each bit that is there is one of a signal that a name has
abbrev pub AreBitsOf : List Name → List (Option Bit) → Type 0
AreBitsOf names bits = All (λ each. IfSome each (λ bit. AtomInRange names (atom_of bit))) bits

-- the first of some signals that has no bit
abbrev pub missing_among : List (Option Bit) → List ℕ → Option ℕ
missing_among bits signals = find (λ signal. is_none (slice_index_or bits signal None)) signals

-- a latch has not its first value, or not the one that its input has in the valuation before
abbrev pub leaves_by : Truth → List Truth → List Truth → Latch → Truth
leaves_by at_first earlier values latch = cond at_first (differs_from latch.init (bit values latch.output)) (differ (bit values latch.output) (bit earlier latch.input))

abbrev pub lowest_latch : List Latch → Truth → List Truth → List Truth → Option ℕ
lowest_latch latches at_first earlier values = lowest None (map (λ latch. latch.output) (filter (leaves_by at_first earlier values) latches))

-- the output of a table is recorded, and has not the value that it has in the valuation
abbrev pub differs_by : List (Option Bit) → List Truth → List Truth → Table → Truth
differs_by bits valuation values table = is_some (slice_index_or bits table.output None) && differ (bit values table.output) (bit valuation table.output)

abbrev pub lowest_table : List Table → Option ℕ → List (Option Bit) → List Truth → List Truth → Option ℕ
lowest_table tables before bits valuation values = lowest before (map (λ table. table.output) (filter (differs_by bits valuation values) tables))
