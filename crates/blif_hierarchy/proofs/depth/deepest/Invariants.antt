use Rattle.std.proofs.Common.{◌≡◌, ◌<◌, map, max, drop, get_or}
use Rattle.blif_flattening.specs.Hierarchy.{placements_in}
use Rattle.blif_flattening.specs.declared.model.TheConstants.{DEEPEST}
use Rattle.blif_hierarchy.specs.Depth.{largest}
use Rattle.blif_hierarchy.proofs.depth.deepest.Given as goal

abbrev pub invariant-loop-item : goal.invariant-loop-item
invariant-loop-item g l = record {
  few : l.most < DEEPEST;
  rest : max l.most (largest (map (λ placement. get_or l.depths placement.model 0) (placements_in (drop l.item-index l.items))))
      ≡ largest (map (λ placement. get_or l.depths placement.model 0) (placements_in l.items));
}
