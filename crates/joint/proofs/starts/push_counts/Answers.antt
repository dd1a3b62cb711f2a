use Rattle.std.proofs.Common.{rules, ℕ, suc, ◌≡◌, ◌++◌, ◌∙◌, ap, map, neg_ℤ, arith, w32}
use mir.Val.{SFits}
use Rattle.std.specs.List.{range_with_len}
use Rattle.std.proofs.lemmas.Int.{to_z-of_z}
use Rattle.joint_theory.specs.Bits.{count_bit}
use Rattle.joint.proofs.Pushes.{pushed}
use Rattle.joint.proofs.starts.push_counts.Goals as goal

pub loop-number-preserved : goal.loop-number-preserved
loop-number-preserved c =
    let fits_bit : SFits w32 c.counted.result = search rules in
    let fits_negated : SFits w32 c.negated.result = search rules in
    let negated = simp to_z-of_z at c.negated.ensures.is in
    let push = simp to_z-of_z at c.in_ok-push.ensures.ok in
    pushed c.args.literals.now c.loop-number.literals c.push.new.self (λ number. neg_ℤ (count_bit c.args.product.netlist.now c.args.product.violation.now 0 number)) c.loop-number.number
    c.negated.result c.loop-number.invariant push (negated ∙ ap neg_ℤ c.counted.ensures.is)

pub returns : goal.returns
returns c =
    let e : c.loop-number.number ≡ suc c.args.product.visits = omega arith in
    c.loop-number.invariant ∙ ap (λ (n : ℕ). c.args.literals.now ++ map (λ number. neg_ℤ (count_bit c.args.product.netlist.now c.args.product.violation.now 0 number)) (range_with_len 0 n)) e
