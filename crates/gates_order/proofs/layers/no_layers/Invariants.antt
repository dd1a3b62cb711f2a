use Rattle.std.proofs.Common.{◌≡◌, [], replicate}
use Rattle.gates_order.proofs.layers.no_layers.Given as goal

abbrev pub invariant-loop-added : goal.invariant-loop-added
invariant-loop-added l = l.layers.items ≡ replicate l._added []
