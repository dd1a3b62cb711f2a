use Rattle.std.proofs.Common.{◌∙◌, ℕ, false, ap, replicate}
use Rattle.joint.proofs.AskedRows.{row-marked}
use Rattle.alternating.specs.Views.{positive_of}
use Rattle.joint.proofs.askers.row_of.Goals as goal

pub returns : goal.returns
returns c =
    row-marked c.args.violation.now c.args.number c.in_ok-marks.marks c.mark.new.marks (positive_of c.delta.result.now) (c.in_ok-marks.ensures ∙ ap (λ (count : ℕ). replicate count false) c.len.ensures) c.delta.ensures.shown
    c.mark.ensures.len c.mark.ensures.marks
