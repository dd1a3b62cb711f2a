use Rattle.std.proofs.Common.{◌≡◌, drop, length, map}
use Rattle.netlist.specs.Filling.{with_values}
use Rattle.netlist.proofs.evaluation.set_latches.Given as goal

abbrev pub invariant-loop-place : goal.invariant-loop-place
invariant-loop-place l = record {
  same : with_values (map (λ latch. latch.output) (drop l.place l.latches)) (drop l.place l.given) l.into ≡ with_values (map (λ latch. latch.output) l.latches) l.given l.initial.into;
  size : length l.into ≡ length l.initial.into;
}
