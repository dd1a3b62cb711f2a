use Rattle.std.proofs.Common.{◌≡◌, map, take}
use Rattle.blif_hierarchy.specs.Order.{placed_by}
use Rattle.blif_hierarchy.proofs.recursion.placed_lists.Given as goal

abbrev pub invariant-loop-model : goal.invariant-loop-model
invariant-loop-model g l = l.lists.items ≡ map placed_by (take l.model-index l.models)
