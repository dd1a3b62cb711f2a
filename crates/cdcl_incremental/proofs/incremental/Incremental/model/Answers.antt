use Rattle.cdcl_incremental.proofs.Asking.{model_with}
use Rattle.cdcl_incremental.proofs.incremental.Incremental.model.Goals as goal

pub returns : goal.returns
returns c =
    model_with c.args.self.now c.args.assumed.now c.in_ok-values.field-0 c.requires.grown c.requires.not_refuted c.if-self.false c.trail-trail.ensures.settled c.requires.done
    (rw c.trail-trail.ensures.is at c.in_ok-values.ensures) c.requires.within
    (rw (c.trail-trail.ensures.is, c.if-not-are_true.false) at c.are_true.ensures)
