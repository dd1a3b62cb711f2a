use Rattle.prover.proofs.context.Prover.reach_on.Given as goal
use Rattle.prover.specs.Reaching.{HaveCome}

abbrev pub invariant-loop-visits : goal.invariant-loop-visits
invariant-loop-visits l = HaveCome l.fn.self.task l.visits l.ends l.begun
