-- What is kept of the signals while depths are computed along an order.
use Rattle.std.specs.Prelude.{◌≡◌, ℕ, suc, ◌<◌, List, None, length, slice_index}
use Rattle.netlist.specs.declared.table.Table.{Table}
use Rattle.netlist.specs.Sound.{table_at}
use Rattle.netlist_order.specs.TableGraph.{driver_in}
use Rattle.gates_order.specs.Depths.{depth_of}

-- A signal that no table drives has the level 0, and the output of a table has one more than the table's depth, as far as
-- the tables before a place go.
pub record AreLevels (tables : List Table) (order : List ℕ) (place : ℕ) (levels : List ℕ) : Type 0 where
  pub free : (signal : ℕ) → driver_in tables signal ≡ None → slice_index levels signal ≡ 0
  pub driven : (earlier : ℕ) → earlier < place
      → slice_index levels (table_at tables (slice_index order earlier)).output
      ≡ suc (depth_of tables (slice_index order earlier))

-- the output of each table has one more than the table's depth
abbrev pub TellDepths : List Table → List ℕ → Type 0
TellDepths tables levels =
    (number : ℕ) → number < length tables → slice_index levels (table_at tables number).output ≡ suc (depth_of tables number)
