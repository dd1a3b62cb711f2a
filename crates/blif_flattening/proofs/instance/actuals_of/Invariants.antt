use Rattle.std.proofs.Common.{◌≤◌, length, drop}
use Rattle.blif_flattening.specs.Instances.{HasActuals}
use Rattle.blif_flattening.proofs.instance.actuals_of.Given as goal

abbrev pub invariant-loop-index : goal.invariant-loop-index
invariant-loop-index l = record {
  within : l.index ≤ length l.connections;
  has : HasActuals (drop l.index l.connections) l.count l.actuals.items;
}

abbrev pub decreases-loop-index : goal.decreases-loop-index
decreases-loop-index l = l.index
