-- What holds of each netlist, and an order in which its tables can be computed.
use Rattle.std.specs.Prelude.{◌≡◌, ℕ, ◌+◌, ◌<◌, ◌^◌, false, List, [], take, length, slice_index, slice_index_or, All, Any, Contains}
use Rattle.psl_tree.specs.declared.name.Name.{Name}
use Rattle.netlist.specs.declared.table.Table.{Table}
use Rattle.netlist.specs.Design.{Design, driven_signals, marks_of}

-- no number stands in the list twice
abbrev pub AreApart : List ℕ → Type 0
AreApart numbers = (i j : ℕ) → i < length numbers → j < length numbers → slice_index numbers i ≡ slice_index numbers j → i ≡ j

abbrev pub no_table : Table
no_table = record { inputs = []; output = 0; rows = []; value = false }

abbrev pub table_at : List Table → ℕ → Table
table_at tables number = slice_index_or tables number no_table

-- an order in which tables can be computed: each table once, by its place in the list, and after those whose outputs it
-- reads
pub record IsOrder (tables : List Table) (order : List ℕ) : Type 0 where
  pub within : All (λ table. table < length tables) order
  pub each : (table : ℕ) → table < length tables → Contains order table
  pub once : AreApart order
  pub after : (place table : ℕ) → place < length order → table < length tables
      → Contains (table_at tables (slice_index order place)).inputs (table_at tables table).output → Contains (take place order) table

-- a name of a signal of one bit
pub record NamesBit (signals : ℕ) (name : Name) : Type 0 where
  pub signal : name.signal < signals
  pub left : name.left ≡ 0
  pub right : name.right ≡ 0

-- what a netlist reads and drives are its signals; just one input, latch or table drives each of them; each row has a
-- mark for each input of its table; each signal has a name, and the names are those of signals; and the signals and
-- marks together can be counted
pub record IsSound (design : Design) : Type 0 where
  pub latch_inputs : All (λ latch. latch.input < design.signals) design.latches
  pub table_inputs : All (λ table. All (λ signal. signal < design.signals) table.inputs) design.tables
  pub driven : All (λ signal. signal < design.signals) (driven_signals design.inputs design.latches design.tables)
  pub once : AreApart (driven_signals design.inputs design.latches design.tables)
  pub each : (signal : ℕ) → signal < design.signals → Contains (driven_signals design.inputs design.latches design.tables) signal
  pub marks : All (λ table. All (λ row. length row ≡ length table.inputs) table.rows) design.tables
  pub named : (signal : ℕ) → signal < design.signals → Any (λ name. name.signal ≡ signal) design.names
  pub names : All (NamesBit design.signals) design.names
  pub bulk : design.signals + marks_of design.tables < 2 ^ 63
