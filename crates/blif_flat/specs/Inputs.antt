-- How the inputs of the top are found, and what is made of a hierarchy.
use Rattle.std.specs.Prelude.{ℕ, List, [], ◌∷◌, Option, None, Some, slice_index_or}
use Rattle.blif_flattening.specs.declared.listing.FlatInstance.{FlatInstance}
use Rattle.blif_flattening.specs.declared.model.Item.{Item}
use Rattle.blif_flattening.specs.declared.model.Item.TheVariants.{Own, Place}
use Rattle.netlist.specs.Design.{Design}
use Rattle.blif_model.specs.declared.line.ModelLine.{ModelLine}
use Rattle.blif_flat.specs.declared.flat.FlatNetlist.{FlatNetlist}
use Rattle.blif_flat.specs.Lines.{inputs_of}

abbrev pub number_or : Option ℕ → ℕ
number_or None = 0
number_or (Some number) = number

-- the number of the signal of a name, 0 where it is none
abbrev pub number_in : List (Option ℕ) → ℕ → ℕ
number_in numbers name = number_or (slice_index_or numbers name None)

abbrev pub first_numbers : List FlatInstance → List (Option ℕ)
first_numbers [] = []
first_numbers (first ∷ instances) = first.numbers

-- the names that an item lists as inputs
abbrev pub inputs_at : Item ModelLine → List ℕ
inputs_at (Own line) = inputs_of line
inputs_at (Place placement) = []

-- the netlist that was made
abbrev pub design_in : FlatNetlist → Design
design_in made = record {
  signals = made.signals;
  inputs = made.inputs;
  latches = made.parts.latches;
  tables = made.parts.tables;
  names = made.names;
}
