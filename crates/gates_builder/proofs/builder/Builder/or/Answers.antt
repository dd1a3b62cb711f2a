use Rattle.std.proofs.Common.{◌≡◌, neg_ℤ, rules, arith, w32}
use mir.Val.{SFits}
use Rattle.std.proofs.lemmas.Int.{to_z-of_z}
use Rattle.std.proofs.lemmas.Result.{err_from_is_err_and}
use Rattle.gates_nodes.specs.Folding.{conjoined, either}
use Rattle.gates_builder.proofs.Growing.{adds-fails, adds-negated}
use Rattle.gates_builder.proofs.builder.Builder.or.Goals as goal

pub returns-in_err-neither : goal.returns-in_err-neither
returns-in_err-neither c =
    let now = c.args.self.now in
    let a = c.args.first in
    let b = c.args.second in
    let fits_a : SFits w32 a = search rules in
    let fits_b : SFits w32 b = search rules in
    let fits_c : SFits w32 c.negated.result = search rules in
    let fits_d : SFits w32 c.negated-2.result = search rules in
    let one : c.negated.result ≡ neg_ℤ a = simp to_z-of_z at c.negated.ensures.is in
    let two : c.negated-2.result ≡ neg_ℤ b = simp to_z-of_z at c.negated-2.ensures.is in
    let failed = simp to_z-of_z at c.in_err-neither.ensures in
    let p = err_from_is_err_and c.from_residual.result c.from_residual.ensures.1 in
    rw (p.1, p.2) (adds-fails now c.and.new.self (conjoined now.given now.nodes (neg_ℤ a) (neg_ℤ b)) (either now.given now.nodes a b) c.in_err-neither.field-0.0 (omega arith) (rw (one, two) at failed))

pub returns : goal.returns
returns c =
    let now = c.args.self.now in
    let a = c.args.first in
    let b = c.args.second in
    let fits_a : SFits w32 a = search rules in
    let fits_b : SFits w32 b = search rules in
    let fits_c : SFits w32 c.negated.result = search rules in
    let fits_d : SFits w32 c.negated-2.result = search rules in
    let fits_e : SFits w32 c.in_ok-neither.neither = search rules in
    let fits_f : SFits w32 c.negated-3.result = search rules in
    let one : c.negated.result ≡ neg_ℤ a = simp to_z-of_z at c.negated.ensures.is in
    let two : c.negated-2.result ≡ neg_ℤ b = simp to_z-of_z at c.negated-2.ensures.is in
    let three : c.negated-3.result ≡ neg_ℤ c.in_ok-neither.neither = simp to_z-of_z at c.negated-3.ensures.is in
    let made = simp to_z-of_z at c.in_ok-neither.ensures in
    rw to_z-of_z (adds-negated now c.and.new.self (conjoined now.given now.nodes (neg_ℤ a) (neg_ℤ b)) c.in_ok-neither.neither c.negated-3.result three c.negated-3.ensures.literal (rw (one, two) at made))
