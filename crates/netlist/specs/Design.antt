-- What contracts see of a netlist.
use Rattle.std.specs.Prelude.{ℕ, List, ◌++◌, map, length, sum_by}
use Rattle.psl_tree.specs.declared.name.Name.{Name}
use Rattle.netlist.specs.declared.latch.Latch.{Latch}
use Rattle.netlist.specs.declared.rows.Mark.{Mark}
use Rattle.netlist.specs.declared.table.Table.{Table}

-- a netlist: how many signals there are, each of one bit; the inputs, latches and tables, in the order in which they are
-- listed; and the names of signals
pub record Design : Type 0 where
  pub signals : ℕ
  pub inputs : List ℕ
  pub latches : List Latch
  pub tables : List Table
  pub names : List Name

-- the signals that no table drives: the inputs, and then the outputs of the latches
abbrev pub free_signals : List ℕ → List Latch → List ℕ
free_signals inputs latches = inputs ++ map (λ latch. latch.output) latches

-- the signals that something drives: the free ones, and then the outputs of the tables
abbrev pub driven_signals : List ℕ → List Latch → List Table → List ℕ
driven_signals inputs latches tables = free_signals inputs latches ++ map (λ table. table.output) tables

abbrev pub free_of : Design → List ℕ
free_of design = free_signals design.inputs design.latches

-- how many marks the rows of tables have
abbrev pub marks_of : List Table → ℕ
marks_of tables = sum_by (λ table. sum_by (length {A = Mark}) table.rows) tables
