use Rattle.std.proofs.Common.{◌≡◌, ◌≤◌, drop}
use Rattle.blif_flattening.specs.Hierarchy.{placements_in}
use Rattle.blif_hierarchy.specs.Sums.{long_from}
use Rattle.blif_hierarchy.proofs.lines.first_long.Given as goal

abbrev pub invariant-loop-item : goal.invariant-loop-item
invariant-loop-item g l = record {
  few : l.number ≤ l.item-index;
  rest : long_from l.scale l.below l.sum l.number (placements_in (drop l.item-index l.items))
      ≡ long_from l.scale l.below l.fn.start 0 (placements_in l.items);
}
