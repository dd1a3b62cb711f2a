-- What a path takes from choices.
use Rattle.std.specs.Prelude.{◌≡◌, ℕ, ◌<◌, Bool as Truth, true, false, List, [], length, slice_index_or}
use Rattle.gates_frames.specs.Paths.{valuation_of}
use Rattle.netlist.specs.Design.{Design}
use Rattle.netlist.specs.Valuations.{bit, values}
use Rattle.netlist.specs.declared.latch.Init.{Init}
use Rattle.netlist.specs.declared.latch.Init.TheVariants as inits
use Rattle.netlist.specs.declared.latch.Latch.{Latch}

-- a value is the first one of a latch, which is the chosen one if the latch has no other
abbrev pub IsFirst : Init → Truth → Truth → Type 0
IsFirst inits.Zero chosen value = value ≡ false
IsFirst inits.One chosen value = value ≡ true
IsFirst inits.Free chosen value = value ≡ chosen

-- the latches have these first values
abbrev pub HasFirsts : List Latch → List Truth → List Truth → Type 0
HasFirsts latches first chosen =
    (place : ℕ) (other : Latch) → place < length latches
    → IsFirst (slice_index_or latches place other).init (slice_index_or chosen place false) (bit first (slice_index_or latches place other).output)

-- the inputs have these values at the places of a path
abbrev pub HasInputs : Design → List (List Truth) → List (List Truth) → Type 0
HasInputs design path inputs =
    (place : ℕ) → place < length inputs → values (valuation_of path place) design.inputs ≡ slice_index_or inputs place []
