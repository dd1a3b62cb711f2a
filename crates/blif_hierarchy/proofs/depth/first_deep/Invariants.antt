use Rattle.std.proofs.Common.{◌≡◌, ◌≤◌, nat_le, drop, get_or}
use Rattle.std.specs.List.{position_from}
use Rattle.blif_flattening.specs.Hierarchy.{placements_in}
use Rattle.blif_flattening.specs.declared.model.TheConstants.{DEEPEST}
use Rattle.blif_hierarchy.proofs.depth.first_deep.Given as goal

abbrev pub invariant-loop-item : goal.invariant-loop-item
invariant-loop-item g l = record {
  few : l.number ≤ l.item-index;
  rest : position_from (λ placement. nat_le DEEPEST (get_or l.depths placement.model 0)) l.number (placements_in (drop l.item-index l.items))
      ≡ position_from (λ placement. nat_le DEEPEST (get_or l.depths placement.model 0)) 0 (placements_in l.items);
}
