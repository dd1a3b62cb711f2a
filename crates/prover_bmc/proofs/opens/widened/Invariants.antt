use Rattle.prover_bmc.specs.Chains.{IsChain}
use Rattle.prover_bmc.proofs.opens.widened.Given as goal

abbrev pub invariant-loop-place : goal.invariant-loop-place
invariant-loop-place l = IsChain l.plan l.widened
