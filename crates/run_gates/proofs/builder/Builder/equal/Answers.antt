use Rattle.std.proofs.Common.{rules, ◌≡◌, ◌∙◌, ap, length, neg_ℤ, negsuc, suc, arith, w32}
use mir.Val.{SFits}
use Rattle.std.proofs.lemmas.Int.{to_z-of_z}
use Rattle.gates_theory.specs.declared.circuit.Gate.TheVariants.{And}
use Rattle.run_gates.proofs.Appends.{three_gates}
use Rattle.run_gates.proofs.builder.Builder.equal.Goals as goal

pub returns-clause-gates : goal.returns-clause-gates
returns-clause-gates c =
    let old = c.args.self.now in
    let a = c.args.first in
    let b = c.args.second in
    let fits_first : SFits w32 a = search rules in
    let fits_second : SFits w32 b = search rules in
    let fits_negated : SFits w32 c.negated.result = search rules in
    let fits_negated-2 : SFits w32 c.negated-2.result = search rules in
    let both = c.in_ok-both.both in
    let neither = c.in_ok-neither.neither in
    let fits_both : SFits w32 both = search rules in
    let fits_neither : SFits w32 neither = search rules in
    let fits_negated-3 : SFits w32 c.negated-3.result = search rules in
    let fits_negated-4 : SFits w32 c.negated-4.result = search rules in
    let size : length c.and.new.self ≡ suc (length old) = omega (arith, c.in_ok-both.ensures.size) in
    let one : c.negated.result ≡ neg_ℤ a = simp to_z-of_z at c.negated.ensures.is in
    let two : c.negated-2.result ≡ neg_ℤ b = simp to_z-of_z at c.negated-2.ensures.is in
    let three : c.negated-3.result ≡ negsuc (length old) = (simp to_z-of_z at c.negated-3.ensures.is) ∙ ap neg_ℤ c.in_ok-both.ensures.output in
    let four : c.negated-4.result ≡ negsuc (suc (length old)) =
    (simp to_z-of_z at c.negated-4.ensures.is) ∙ ap neg_ℤ c.in_ok-neither.ensures.output ∙ ap negsuc size in
    let gates_one = simp to_z-of_z at c.in_ok-both.ensures.gates in
    let gates_two = simp to_z-of_z at c.in_ok-neither.ensures.gates in
    let gates_three = simp to_z-of_z at c.in_ok-different.ensures.gates in
    three_gates old c.and.new.self c.and-2.new.self c.and-3.new.self (And a b) (And (neg_ℤ a) (neg_ℤ b)) (And (negsuc (length old)) (negsuc (suc (length old))))
    gates_one (rw (one, two) at gates_two) (rw (three, four) at gates_three)
