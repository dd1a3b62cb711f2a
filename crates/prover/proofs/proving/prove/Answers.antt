use Rattle.prover.proofs.Voicing.{silent-whole}
use Rattle.prover.proofs.proving.prove.Goals as goal
use Rattle.prover.specs.Milestones.{IsMilestoneFor}

pub unreachable-requires : goal.unreachable-requires
unreachable-requires c =
    silent-whole (IsMilestoneFor c.args.task) _ _ (rw c.in-Err-Unwritten.field-0-is at c.in-Err-Unwritten.ensures.fault)
