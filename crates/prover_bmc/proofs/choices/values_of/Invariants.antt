use Rattle.std.proofs.Common.{◌≡◌, length}
use Rattle.prover_bmc.proofs.choices.values_of.Given as goal

abbrev pub invariant-loop-literal : goal.invariant-loop-literal
invariant-loop-literal l = length l.bits ≡ l.literal-index
