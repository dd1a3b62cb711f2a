use Rattle.blif_hierarchy.specs.Sums.{HasCosts}
use Rattle.blif_hierarchy.proofs.cost.costs_of.Given as goal

abbrev pub invariant-loop-round : goal.invariant-loop-round
invariant-loop-round g l = HasCosts l.models l.scale l.round l.costs.items
