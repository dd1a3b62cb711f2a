-- The dependency graph of tables that read signals.
use Rattle.std.specs.Prelude.{ℕ, List, Option, None, map, slice_index_or}
use Rattle.netlist_order.specs.Graph.{Graph}

-- of each signal of a list, the table that drives it
abbrev pub drivers_of : List (Option ℕ) → List ℕ → List (Option ℕ)
drivers_of drivers signals = map (λ signal. slice_index_or drivers signal None) signals

-- from the signals that each table reads, and the table that drives each signal
abbrev pub graph_of : List (List ℕ) → List (Option ℕ) → Graph
graph_of lists drivers = map (drivers_of drivers) lists
