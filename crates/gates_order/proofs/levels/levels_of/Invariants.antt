use Rattle.std.proofs.Common.{◌≡◌, length}
use Rattle.gates_order.specs.Kept.{AreLevels}
use Rattle.gates_order.proofs.levels.levels_of.Given as goal

abbrev pub invariant-loop-number : goal.invariant-loop-number
invariant-loop-number l = record {
  size : length l.levels.items ≡ l.netlist.signals;
  levels : AreLevels l.netlist.tables l.order l.number-index l.levels.items;
}
