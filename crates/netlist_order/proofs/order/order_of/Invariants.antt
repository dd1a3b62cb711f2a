use Rattle.std.proofs.Common.{◌≡◌, ◌≢◌, ℕ, ◌<◌, []}
use Rattle.netlist_order.specs.declared.search.Visit.TheVariants.{New}
use Rattle.netlist_order.specs.State.{mark_of}
use Rattle.netlist_order.specs.Sound.{IsSound}
use Rattle.netlist_order.proofs.order.order_of.Given as goal

abbrev pub invariant-loop-table : goal.invariant-loop-table
invariant-loop-table l = record {
  sound : IsSound l.wiring l.search;
  ended : l.search.path ≡ [];
  met : (table : ℕ) → table < l.table → mark_of l.search table ≢ New;
}
