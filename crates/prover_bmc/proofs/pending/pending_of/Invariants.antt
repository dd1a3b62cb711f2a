use Rattle.std.proofs.Common.{◌≡◌, length}
use Rattle.gates_builder.specs.Adding.{AreOf}
use Rattle.prover_bmc.specs.Later.{IsLater}
use Rattle.prover_bmc.proofs.pending.pending_of.Given as goal

abbrev pub invariant-loop-number : goal.invariant-loop-number
invariant-loop-number l = record {
  later : IsLater l.initial.builder l.builder;
  size : length l.pending ≡ l.number;
  are : AreOf l.builder l.pending;
}
