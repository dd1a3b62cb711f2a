use Rattle.std.proofs.Common.{rules, ◌∙◌, ap, [], ◌∷◌, w32}
use mir.Val.{SFits}
use Rattle.std.proofs.lemmas.Int.{to_z-of_z}
use Rattle.joint_theory.specs.Bits.{pending_bit}
use Rattle.joint_theory.specs.Queries.{with_sign}
use Rattle.joint_theory.specs.States.{is_listed, not_accepting}
use Rattle.joint.proofs.Pushes.{pushed}
use Rattle.joint.proofs.starts.push_pending.Goals as goal

pub loop-number-preserved : goal.loop-number-preserved
loop-number-preserved c =
    let fits_bit : SFits w32 c.pending.result = search rules in
    let fits_signed : SFits w32 c.with_sign.result = search rules in
    let signed = simp to_z-of_z at c.with_sign.ensures in
    let push = simp to_z-of_z at c.in_ok-push.ensures.ok in
    pushed c.args.literals.now c.loop-number.literals c.push.new.self (λ number. with_sign (is_listed (not_accepting c.args.product.violation.now (c.args.product.violation.now.start ∷ [])) number) (pending_bit c.args.product.netlist.now c.args.product.violation.now 0 number)) c.loop-number.number c.with_sign.result
    c.loop-number.invariant push
    (signed ∙ ap (λ sign. with_sign sign c.pending.result) c.is_put_off.ensures ∙ ap (with_sign _) c.pending.ensures.is)
