use Rattle.prover_bmc.specs.Later.{IsLater}
use Rattle.prover_bmc.proofs.support.add_supports.Given as goal

abbrev pub invariant-loop-number : goal.invariant-loop-number
invariant-loop-number l = IsLater l.initial.builder l.builder
