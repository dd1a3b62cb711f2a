use Rattle.std.proofs.Common.{◌≡◌}
use Rattle.prover.proofs.context.Prover.likely_path.Given as goal

abbrev pub invariant-loop-again : goal.invariant-loop-again
invariant-loop-again l = l.opens ≡ l.initial.opens
