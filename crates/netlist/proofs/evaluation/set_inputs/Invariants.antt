use Rattle.std.proofs.Common.{◌≡◌, drop, length}
use Rattle.netlist.specs.Filling.{with_values}
use Rattle.netlist.proofs.evaluation.set_inputs.Given as goal

abbrev pub invariant-loop-place : goal.invariant-loop-place
invariant-loop-place l = record {
  same : with_values (drop l.place l.inputs) (drop l.place l.given) l.into ≡ with_values l.inputs l.given l.initial.into;
  size : length l.into ≡ length l.initial.into;
}
