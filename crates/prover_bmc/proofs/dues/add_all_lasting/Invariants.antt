use Rattle.prover_bmc.specs.Later.{IsLater}
use Rattle.prover_bmc.proofs.dues.add_all_lasting.Given as goal

abbrev pub invariant-loop-number : goal.invariant-loop-number
invariant-loop-number l = IsLater l.initial.builder l.builder
