-- Rows of one length that lie one behind another.
use Rattle.std.specs.Prelude.{ℕ, zero, suc, List, [], ◌∷◌, take, drop}
use Rattle.netlist.specs.declared.rows.Mark.{Mark}

-- so many rows of so many marks each
abbrev pub rows_in : ℕ → ℕ → List Mark → List (List Mark)
rows_in zero width marks = []
rows_in (suc count) width marks = take width marks ∷ rows_in count width (drop width marks)
