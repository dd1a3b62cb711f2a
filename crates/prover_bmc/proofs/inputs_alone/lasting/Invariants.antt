use Rattle.std.proofs.Common.{◌≡◌, length}
use Rattle.prover_bmc.proofs.inputs_alone.lasting.Given as goal

abbrev pub invariant-loop-number : goal.invariant-loop-number
invariant-loop-number l = length l.lasting ≡ l.number
