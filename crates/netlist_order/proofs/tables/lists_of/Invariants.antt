use Rattle.std.proofs.Common.{◌≡◌, ℕ, List, map, take, Bor}
use Rattle.netlist_order.proofs.tables.lists_of.Given as goal

abbrev pub invariant-loop-table : goal.invariant-loop-table
invariant-loop-table l = map (λ (list : Bor (List ℕ)). list.now) l.lists.items ≡ map (λ table. table.inputs) (take l.table-index l.tables)
