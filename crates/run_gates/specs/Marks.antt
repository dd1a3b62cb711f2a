-- What a mark asks, and what holds of each table and latch of a netlist.
use Rattle.std.specs.Prelude.{◌≡◌, ℕ, ◌<◌, ℤ, neg_ℤ, Option, None, Some, length, All}
use Rattle.netlist.specs.declared.latch.Latch.{Latch}
use Rattle.netlist.specs.declared.rows.Mark.{Mark}
use Rattle.netlist.specs.declared.rows.Mark.TheVariants as marks
use Rattle.netlist.specs.declared.table.Table.{Table}

-- the literal that it asks to be true, of that of an input
abbrev pub marked : Mark → ℤ → Option ℤ
marked marks.Zero literal = Some (neg_ℤ literal)
marked marks.One literal = Some literal
marked marks.Any literal = None

-- what a table reads and drives is of the first so many signals, and each row has a mark for each input
pub record IsSoundTable (signals : ℕ) (table : Table) : Type 0 where
  pub inputs : All (λ signal. signal < signals) table.inputs
  pub output : table.output < signals
  pub marks : All (λ row. length row ≡ length table.inputs) table.rows

-- what a latch reads and drives is of the first so many signals
pub record IsSoundLatch (signals : ℕ) (latch : Latch) : Type 0 where
  pub input : latch.input < signals
  pub output : latch.output < signals
