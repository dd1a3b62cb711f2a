use Rattle.std.proofs.Common.{◌≡◌, drop, fold}
use Rattle.blif_flattening.specs.Hierarchy.{placements_in}
use Rattle.blif_hierarchy.specs.Sums.{no_cost, with_placement}
use Rattle.blif_hierarchy.proofs.cost.cost_in.Given as goal

abbrev pub invariant-loop-item : goal.invariant-loop-item
invariant-loop-item g l =
    fold (with_placement l.models l.scale l.costs) l.sum (placements_in (drop l.item-index l.items))
    ≡ fold (with_placement l.models l.scale l.costs) no_cost (placements_in l.items)
