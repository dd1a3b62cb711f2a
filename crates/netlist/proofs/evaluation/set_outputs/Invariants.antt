use Rattle.std.proofs.Common.{◌≡◌, take, length}
use Rattle.netlist.specs.Filling.{with_outputs}
use Rattle.netlist.proofs.evaluation.set_outputs.Given as goal

abbrev pub invariant-loop-number : goal.invariant-loop-number
invariant-loop-number l = record {
  same : l.into ≡ with_outputs l.tables (take l.number-index l.order) l.initial.into;
  size : length l.into ≡ length l.initial.into;
}
