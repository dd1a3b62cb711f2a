use Rattle.std.proofs.Common.{◌≡◌, length}
use Rattle.gates_builder.specs.Adding.{AreOf}
use Rattle.prover_bmc.proofs.pending.may_meet.Given as goal

abbrev pub invariant-loop-number : goal.invariant-loop-number
invariant-loop-number l = record {
  size : length l.may ≡ l.number;
  are : AreOf l.builder l.may;
}
