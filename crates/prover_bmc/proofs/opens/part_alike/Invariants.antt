use Rattle.prover_bmc.proofs.opens.part_alike.Given as goal
use Rattle.prover_bmc.specs.Chains.{IsChain}

abbrev pub invariant-loop-second : goal.invariant-loop-second
invariant-loop-second l = IsChain l.fn.plan l.chain
