use Rattle.gates_builder.specs.Adding.{IsOf}
use Rattle.prover_bmc.specs.Later.{IsLater}
use Rattle.prover_bmc.proofs.support.asked_by.Given as goal

abbrev pub invariant-loop-other : goal.invariant-loop-other
invariant-loop-other l = record {
  later : IsLater l.initial.builder l.builder;
  of : IsOf l.builder l.some;
}
