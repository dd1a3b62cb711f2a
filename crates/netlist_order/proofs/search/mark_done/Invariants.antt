use Rattle.std.proofs.Common.{◌≡◌, drop}
use Rattle.netlist_order.specs.State.{mark_done}
use Rattle.netlist_order.proofs.search.mark_done.Given as goal

abbrev pub invariant-loop-table : goal.invariant-loop-table
invariant-loop-table l = mark_done l.marks (drop l.table-index l.tables) ≡ mark_done l.initial.marks l.tables
