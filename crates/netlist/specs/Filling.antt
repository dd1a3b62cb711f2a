-- How a valuation is filled: the free signals are set, and then the outputs of the tables in an order that computes.
use Rattle.std.specs.Prelude.{ℕ, Bool as Truth, List, ◌∷◌, fold, slice_set}
use Rattle.netlist.specs.declared.table.Table.{Table}
use Rattle.netlist.specs.Sound.{table_at}
use Rattle.netlist.specs.Valuations.{output_in}

-- a valuation in which signals have these values
abbrev pub with_values : List ℕ → List Truth → List Truth → List Truth
with_values (signal ∷ signals) (value ∷ values) valuation = with_values signals values (slice_set valuation signal value)
with_values _ _ valuation = valuation

-- a valuation in which the output of a table has the value that its rows say
abbrev pub with_output : List Table → List Truth → ℕ → List Truth
with_output tables valuation number = slice_set valuation (table_at tables number).output (output_in valuation (table_at tables number))

-- the same for some tables in order
abbrev pub with_outputs : List Table → List ℕ → List Truth → List Truth
with_outputs tables order valuation = fold (with_output tables) valuation order
