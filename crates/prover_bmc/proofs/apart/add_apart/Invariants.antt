use Rattle.prover_bmc.specs.Later.{IsLater}
use Rattle.prover_bmc.proofs.apart.add_apart.Given as goal

abbrev pub invariant-loop-place : goal.invariant-loop-place
invariant-loop-place l = IsLater l.initial.builder l.builder
