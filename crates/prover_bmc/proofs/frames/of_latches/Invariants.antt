use Rattle.std.proofs.Common.{◌≡◌, length}
use Rattle.prover_bmc.proofs.frames.of_latches.Given as goal

abbrev pub invariant-loop-latch : goal.invariant-loop-latch
invariant-loop-latch l = length l.literals ≡ l.latch-index
