-- What the flat lines of a hierarchy list, by what stands at their places in their models.
use Rattle.std.specs.Prelude.{ℕ, List, [], ◌++◌, Option, None, Some}
use Rattle.std.specs.List.{flat_map}
use Rattle.blif_flattening.specs.declared.model.Item.{Item}
use Rattle.blif_flattening.specs.declared.model.Item.TheVariants.{Own, Place}
use Rattle.netlist.specs.declared.latch.Latch.{Latch}
use Rattle.netlist.specs.declared.table.Table.{Table}
use Rattle.blif_model.specs.declared.line.LineKind.{LineKind}
use Rattle.blif_model.specs.declared.line.ModelLine.{ModelLine}
use Rattle.blif_model.specs.declared.line.TableRows.{TableRows}
use Rattle.blif_flat.specs.declared.parts.FlatParts.{FlatParts}
use Rattle.blif_flat.specs.Lines.{latches_by, tables_by, outputs_by}

-- what stands there, and the numbers of the signals that it mentions
abbrev pub View : Type 0
View = Option (Item ModelLine) × List ℕ

abbrev pub latches_in : Option (Item ModelLine) → List ℕ → List Latch
latches_in (Some (Own line)) numbers = latches_by line.kind numbers
latches_in (Some (Place placement)) numbers = []
latches_in None numbers = []

abbrev pub tables_in : Option (Item ModelLine) → List ℕ → List Table
tables_in (Some (Own line)) numbers = tables_by line.kind numbers
tables_in (Some (Place placement)) numbers = []
tables_in None numbers = []

abbrev pub outputs_in : Option (Item ModelLine) → List ℕ
outputs_in (Some (Own line)) = outputs_by line.kind
outputs_in (Some (Place placement)) = []
outputs_in None = []

-- what they list together
abbrev pub parts_in : List View → FlatParts
parts_in views = record {
  latches = flat_map (λ view. latches_in view.0 view.1) views;
  tables = flat_map (λ view. tables_in view.0 view.1) views;
  outputs = flat_map (λ view. outputs_in view.0) views;
}

-- one line more
abbrev pub with_kind : FlatParts → LineKind → List ℕ → FlatParts
with_kind parts kind numbers = record {
  latches = parts.latches ++ latches_by kind numbers;
  tables = parts.tables ++ tables_by kind numbers;
  outputs = parts.outputs ++ outputs_by kind;
}

abbrev pub with_entry : FlatParts → Option (Item ModelLine) → List ℕ → FlatParts
with_entry parts entry numbers = record {
  latches = parts.latches ++ latches_in entry numbers;
  tables = parts.tables ++ tables_in entry numbers;
  outputs = parts.outputs ++ outputs_in entry;
}

-- the table that reads and drives these signals
abbrev pub table_with : TableRows → List ℕ → ℕ → Table
table_with rows inputs output = record { inputs = inputs; output = output; rows = rows.rows; value = rows.value }
