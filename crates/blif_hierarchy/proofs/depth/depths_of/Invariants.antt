use Rattle.blif_hierarchy.specs.Depth.{HasDepths}
use Rattle.blif_hierarchy.proofs.depth.depths_of.Given as goal

abbrev pub invariant-loop-round : goal.invariant-loop-round
invariant-loop-round g l = HasDepths l.models l.round l.depths.items
