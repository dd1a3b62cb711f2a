use Rattle.std.proofs.Common.{◌≢◌}
use Rattle.netlist_order.specs.declared.search.Visit.TheVariants.{New}
use Rattle.netlist_order.specs.State.{mark_of, work}
use Rattle.netlist_order.specs.Sound.{IsSound, KeepsMet}
use Rattle.netlist_order.proofs.order.explore.Given as goal

abbrev pub invariant-loop-place : goal.invariant-loop-place
invariant-loop-place l = record {
  sound : IsSound l.wiring l.search;
  kept : KeepsMet l.fn.search l.search;
  met : mark_of l.search l.table ≢ New;
}

abbrev pub decreases-loop-place : goal.decreases-loop-place
decreases-loop-place l = work l.wiring l.search
