use Rattle.std.proofs.Common.{◌≡◌, map, take}
use Rattle.blif_hierarchy.specs.Sums.{cost_after}
use Rattle.blif_hierarchy.proofs.cost.costs_after.Given as goal

abbrev pub invariant-loop-model : goal.invariant-loop-model
invariant-loop-model g l = l.next.items ≡ map (cost_after l.models l.scale l.costs) (take l.model-index l.models)
