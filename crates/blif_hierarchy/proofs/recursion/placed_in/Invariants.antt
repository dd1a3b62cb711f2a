use Rattle.std.proofs.Common.{◌≡◌, ◌++◌, map, drop}
use Rattle.blif_flattening.specs.declared.model.Placement.{Placement}
use Rattle.blif_flattening.specs.Hierarchy.{placements_in}
use Rattle.blif_hierarchy.proofs.recursion.placed_in.Given as goal

abbrev pub invariant-loop-item : goal.invariant-loop-item
invariant-loop-item g l =
    l.placed ++ map (λ (placement : Placement). placement.model) (placements_in (drop l.item-index l.items))
    ≡ map (λ (placement : Placement). placement.model) (placements_in l.items)
