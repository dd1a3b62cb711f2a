use Rattle.std.proofs.Common.{◌≡◌, suc, length}
use Rattle.gates_order.proofs.Steps.{AreLayers}
use Rattle.gates_order.proofs.layers.layers_of.Given as goal

abbrev pub invariant-loop-number : goal.invariant-loop-number
invariant-loop-number l = record {
  size : length l.layers.items ≡ suc (length l.tables);
  layers : AreLayers l.tables l.number l.layers.items;
}
