-- An order of tables that is a function of them: those first that read no table, then those that read these alone, and so
-- on; those of one depth in the order of their numbers.
use Rattle.std.specs.Prelude.{ℕ, zero, suc, max, ◌==◌, List, [], ◌∷◌, filter, length, map, Option, None, Some}
use Rattle.std.specs.List.{flat_map, range_with_len}
use Rattle.netlist.specs.declared.table.Table.{Table}
use Rattle.netlist.specs.Sound.{table_at}
use Rattle.netlist_order.specs.TableGraph.{driver_in}

-- the greatest of some numbers, and 0 of none
abbrev pub most : List ℕ → ℕ
most [] = 0
most (number ∷ numbers) = max number (most numbers)

-- one more than what is counted of the table that drives a signal, and 0 where none does
abbrev pub above : (ℕ → ℕ) → Option ℕ → ℕ
above count None = 0
above count (Some table) = suc (count table)

-- how many tables there are in the longest chain of at most so many, each of which reads the next, that a table reads
abbrev pub depth_within : ℕ → List Table → ℕ → ℕ
depth_within zero tables number = 0
depth_within (suc steps) tables number =
    most (map (λ signal. above (depth_within steps tables) (driver_in tables signal)) (table_at tables number).inputs)

-- no chain is longer than there are tables, where the tables can be computed
abbrev pub depth_of : List Table → ℕ → ℕ
depth_of tables number = depth_within (length tables) tables number

-- the tables of a depth, in the order of their numbers
abbrev pub layer : List Table → ℕ → List ℕ
layer tables depth = filter (λ number. depth_of tables number == depth) (range_with_len 0 (length tables))

-- all tables, by their depths
abbrev pub order_of : List Table → List ℕ
order_of tables = flat_map (layer tables) (range_with_len 0 (suc (length tables)))
