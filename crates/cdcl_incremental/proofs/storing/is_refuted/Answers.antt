use Rattle.std.proofs.Common.{◌∙◌}
use Rattle.cdcl_incremental.proofs.Meeting.{conflict_refutes}
use Rattle.cdcl_incremental.proofs.storing.is_refuted.Goals as goal

pub returns-in-Some-clause-refuted : goal.returns-in-Some-clause-refuted
returns-in-Some-clause-refuted c = λ values met.
    conflict_refutes values c.propagate.new.self c.in-Some._conflict c.trail-settled.ensures.settled (c.propagate.ensures.grown.limits ∙ c.go_back_to.ensures.limits)
    (rw c.in-Some.is at c.in_ok-_conflict.ensures.conflict) met
