-- The dependency graph of the tables of a netlist.
use Rattle.std.specs.Prelude.{ℕ, ◌==◌, List, map, Option}
use Rattle.std.specs.List.{position_from}
use Rattle.netlist.specs.declared.table.Table.{Table}
use Rattle.netlist_order.specs.Graph.{Graph, Depends}

-- the first table that drives a signal
abbrev pub driver_in : List Table → ℕ → Option ℕ
driver_in tables signal = position_from (λ table. table.output == signal) 0 tables

-- of each table, for each of its inputs, the table that drives it
abbrev pub table_graph : List Table → Graph
table_graph tables = map (λ table. map (driver_in tables) table.inputs) tables

-- no table depends on itself
abbrev pub IsAcyclic : Graph → Type 0
IsAcyclic graph = (table : ℕ) → Depends graph table table → ⊥
