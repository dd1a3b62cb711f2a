use Rattle.prover.proofs.context.Prover.joints.Given as goal
use Rattle.prover.specs.Reaching.{AreJointsFor}

abbrev pub invariant-loop-visits : goal.invariant-loop-visits
invariant-loop-visits l = AreJointsFor l.fn.self.task l.visits l.joints
