use Rattle.std.proofs.Common.{◌≡◌, map, take}
use Rattle.blif_hierarchy.specs.Sums.{bytes_after}
use Rattle.blif_hierarchy.proofs.lines.bytes_after.Given as goal

abbrev pub invariant-loop-model : goal.invariant-loop-model
invariant-loop-model g l = l.next.items ≡ map (bytes_after l.scale l.below) (take l.model-index l.models)
