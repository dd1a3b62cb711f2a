use Rattle.std.proofs.Common.{◌≡◌, drop, fold}
use Rattle.blif_flattening.specs.Hierarchy.{placements_in}
use Rattle.blif_hierarchy.specs.Sums.{with_lines}
use Rattle.blif_hierarchy.proofs.lines.bytes_in.Given as goal

abbrev pub invariant-loop-item : goal.invariant-loop-item
invariant-loop-item g l =
    fold (with_lines l.scale l.below) l.sum (placements_in (drop l.item-index l.items))
    ≡ fold (with_lines l.scale l.below) 0 (placements_in l.items)
