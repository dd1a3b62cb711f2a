-- The covers of tables. One side is the table's rows. The other is found greedily: of all rows of four marks, those
-- that ask the fewest values first, each is taken that fits where no row of the table does, and somewhere where none
-- taken before does.
use Rattle.std.specs.Prelude.{ℕ, ◌/◌, ◌%◌, ◌==◌, Bool, true, false, not, ◌&&◌, cond, nat_le, List, [], ◌∷◌, ◌++◌, map, fold, length}
use Rattle.std.specs.List.{count_by, filter, flat_map, list_any, range_with_len}
use Rattle.netlist.specs.declared.rows.Mark.{Mark}
use Rattle.netlist.specs.declared.rows.Mark.TheVariants as marks
use Rattle.netlist.specs.declared.table.Table.{Table}
use Rattle.netlist.specs.Valuations.{fits_row}
use Rattle.gates_nodes.specs.declared.cover.Cover.{Cover}
use Rattle.gates_nodes.specs.Nodes.{fits_some, no_cover}
use Rattle.gates_covers.specs.Points.{points}

-- the row of a number below 81, whose digits to the base 3 are its marks, the highest one first
abbrev pub mark_at : ℕ → Mark
mark_at digit = cond (digit == 0) marks.Any (cond (digit == 1) marks.Zero marks.One)

abbrev pub row_at : ℕ → List Mark
row_at number = mark_at (number / 27) ∷ mark_at (number / 9 % 3) ∷ mark_at (number / 3 % 3) ∷ mark_at (number % 3) ∷ []

-- whether a mark asks a value
abbrev pub asks : Mark → Bool
asks marks.Any = false
asks _ = true

-- the rows that ask so many values, and all rows, those that ask the fewest first
unfoldable pub rows_asking : ℕ → List (List Mark)
rows_asking count = filter (λ row. count_by asks row == count) (map row_at (range_with_len 0 81))

unfoldable pub all_rows : List (List Mark)
all_rows = flat_map rows_asking (range_with_len 0 5)

-- whether a row fits a vector that passes a test
unfoldable pub fits_one : (List Bool → Bool) → List Mark → Bool
fits_one test row = list_any (λ point. fits_row row point && test point) points

-- a row is taken behind others
abbrev pub is_taken : List (List Mark) → List (List Mark) → List Mark → Bool
is_taken rows others row = not (fits_one (fits_some rows) row) && fits_one (λ point. not (fits_some others point)) row

abbrev pub with_taken : List (List Mark) → List (List Mark) → List Mark → List (List Mark)
with_taken rows others row = cond (is_taken rows others row) (others ++ row ∷ []) others

-- few rows that fit where others do not
unfoldable pub opposite : List (List Mark) → List (List Mark)
opposite rows = fold (with_taken rows) [] all_rows

-- the cover of a table; that of one with more than four inputs is always false
abbrev pub sides : Bool → List (List Mark) → List (List Mark) → Cover
sides true rows others = record { on = rows; off = others }
sides false rows others = record { on = others; off = rows }

abbrev pub cover_of : Table → Cover
cover_of table =
    cond (nat_le (length table.inputs) 4) (sides table.value table.rows (opposite table.rows)) no_cover

abbrev pub covers_of : List Table → List Cover
covers_of tables = map cover_of tables
