-- What the lines of a model say of a netlist, by the signals that their names are (Berkeley Logic Interchange Format).
use Rattle.std.specs.Prelude.{◌≡◌, ℕ, ◌≤◌, List, [], ◌∷◌, length, sum_by, All}
use Rattle.netlist.specs.declared.latch.Latch.{Latch}
use Rattle.netlist.specs.declared.rows.Mark.{Mark}
use Rattle.netlist.specs.declared.table.Table.{Table}
use Rattle.blif_model.specs.declared.line.LineKind.{LineKind}
use Rattle.blif_model.specs.declared.line.LineKind.TheVariants as kinds
use Rattle.blif_model.specs.declared.line.ModelLine.{ModelLine}
use Rattle.blif_model.specs.declared.line.TableRows.{TableRows}

-- all but the last of some numbers, and the last
abbrev pub all_but_last : List ℕ → List ℕ
all_but_last [] = []
all_but_last (number ∷ []) = []
all_but_last (number ∷ other ∷ numbers) = number ∷ all_but_last (other ∷ numbers)

abbrev pub last_of : List ℕ → ℕ
last_of [] = 0
last_of (number ∷ []) = number
last_of (number ∷ other ∷ numbers) = last_of (other ∷ numbers)

-- what a line lists, by its kind and the signals that its names are: inputs,
abbrev pub inputs_by : LineKind → List ℕ → List ℕ
inputs_by kinds.Inputs signals = signals
inputs_by kinds.Outputs signals = []
inputs_by (kinds.Latch init) signals = []
inputs_by (kinds.Table rows) signals = []

-- a latch, whose names are what it reads and what it drives,
abbrev pub latches_by : LineKind → List ℕ → List Latch
latches_by kinds.Inputs signals = []
latches_by kinds.Outputs signals = []
latches_by (kinds.Latch init) (input ∷ output ∷ []) = record { input = input; output = output; init = init } ∷ []
latches_by (kinds.Latch init) signals = []
latches_by (kinds.Table rows) signals = []

-- or a table, whose names are what it reads, and then what it drives
abbrev pub table_by : TableRows → List ℕ → Table
table_by rows signals = record {
  inputs = all_but_last signals;
  output = last_of signals;
  rows = rows.rows;
  value = rows.value;
}

abbrev pub tables_by : LineKind → List ℕ → List Table
tables_by kinds.Inputs signals = []
tables_by kinds.Outputs signals = []
tables_by (kinds.Latch init) signals = []
tables_by (kinds.Table rows) signals = table_by rows signals ∷ []

-- how many bytes of the text stand before the name of a table's output
abbrev pub outputs_by : LineKind → List ℕ
outputs_by kinds.Inputs = []
outputs_by kinds.Outputs = []
outputs_by (kinds.Latch init) = []
outputs_by (kinds.Table rows) = rows.output_at ∷ []

-- what a line drives that lists no inputs: the output of a latch or a table
abbrev pub drives_by : LineKind → List ℕ → List ℕ
drives_by kinds.Inputs names = []
drives_by kinds.Outputs names = []
drives_by (kinds.Latch init) (input ∷ output ∷ []) = output ∷ []
drives_by (kinds.Latch init) names = []
drives_by (kinds.Table rows) [] = []
drives_by (kinds.Table rows) (name ∷ names) = last_of (name ∷ names) ∷ []

-- the names that a line mentions, lists as inputs, and drives
abbrev pub mentions_of : ModelLine → List ℕ
mentions_of line = line.mentions

abbrev pub inputs_of : ModelLine → List ℕ
inputs_of line = inputs_by line.kind line.mentions

abbrev pub drives_of : ModelLine → List ℕ
drives_of line = drives_by line.kind line.mentions

-- a latch has two names; a table has one at least, and rows with a mark for each of the others, and so many marks at most
abbrev pub IsFormed : ℕ → LineKind → List ℕ → Type 0
IsFormed most kinds.Inputs names = Unit {0}
IsFormed most kinds.Outputs names = Unit {0}
IsFormed most (kinds.Latch init) names = length names ≡ 2
IsFormed most (kinds.Table rows) [] = ⊥
IsFormed most (kinds.Table rows) (name ∷ names) =
    All (λ row. length row ≡ length names) rows.rows × (sum_by (length {A = Mark}) rows.rows ≤ most)
