use Rattle.std.proofs.Common.{◌≡◌, length}
use Rattle.prover_bmc.specs.Later.{IsLater}
use Rattle.prover_bmc.proofs.apart.add_free.Given as goal

abbrev pub invariant-loop-number : goal.invariant-loop-number
invariant-loop-number l = record {
  later : IsLater l.initial.builder l.builder;
  size : length l.literals ≡ l._number;
}
