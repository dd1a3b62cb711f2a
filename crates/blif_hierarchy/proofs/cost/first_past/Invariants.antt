use Rattle.std.proofs.Common.{◌≡◌, ◌≤◌, drop}
use Rattle.blif_flattening.specs.Hierarchy.{placements_in}
use Rattle.blif_hierarchy.specs.Sums.{past_from}
use Rattle.blif_hierarchy.proofs.cost.first_past.Given as goal

abbrev pub invariant-loop-item : goal.invariant-loop-item
invariant-loop-item g l = record {
  few : l.number ≤ l.item-index;
  rest : past_from l.models l.scale l.costs l.sum l.number (placements_in (drop l.item-index l.items))
      ≡ past_from l.models l.scale l.costs l.fn.start 0 (placements_in l.items);
}
