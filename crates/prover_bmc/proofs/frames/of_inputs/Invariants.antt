use Rattle.std.proofs.Common.{◌≡◌, length}
use Rattle.prover_bmc.proofs.frames.of_inputs.Given as goal

abbrev pub invariant-loop-signal : goal.invariant-loop-signal
invariant-loop-signal l = length l.literals ≡ l.signal-index
