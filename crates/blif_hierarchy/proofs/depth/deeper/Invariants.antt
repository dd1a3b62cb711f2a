use Rattle.std.proofs.Common.{◌≡◌, map, take}
use Rattle.blif_hierarchy.specs.Depth.{depths_after}
use Rattle.blif_hierarchy.proofs.depth.deeper.Given as goal

abbrev pub invariant-loop-model : goal.invariant-loop-model
invariant-loop-model g l = l.next.items ≡ map (depths_after l.depths) (take l.model-index l.models)
