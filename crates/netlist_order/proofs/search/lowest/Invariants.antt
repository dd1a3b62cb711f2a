use Rattle.std.proofs.Common.{◌≡◌, drop}
use Rattle.netlist_order.specs.State.{lowest}
use Rattle.netlist_order.proofs.search.lowest.Given as goal

abbrev pub invariant-loop-table : goal.invariant-loop-table
invariant-loop-table l = lowest l.least (drop l.table-index l.tables) ≡ lowest l.fn.first l.tables
