use Rattle.std.proofs.Common.{rules, neg_ℤ, [], ◌∷◌, w32}
use mir.Val.{SFits}
use Rattle.std.proofs.lemmas.Int.{to_z-of_z}
use Rattle.gates.proofs.Additions.{adds-then}
use Rattle.gates.proofs.parts.add_equality.Goals as goal

pub returns : goal.returns
returns c =
    let left = c.args.left in
    let right = c.args.right in
    let fits_left : SFits w32 left = search rules in
    let fits_right : SFits w32 right = search rules in
    let fits_negated : SFits w32 c.negated.result = search rules in
    let fits_negated-2 : SFits w32 c.negated-2.result = search rules in
    let one = simp to_z-of_z at c.negated.ensures in
    let two = simp to_z-of_z at c.negated-2.ensures in
    let first = simp to_z-of_z at c.in_ok-add_2.ensures.ok in
    let second = simp to_z-of_z at c.add_2-2.ensures in
    adds-then c.args.clauses.now c.add_2.new.clauses c.add_2-2.new.clauses ((neg_ℤ left ∷ right ∷ []) ∷ []) ((left ∷ neg_ℤ right ∷ []) ∷ []) c.add_2-2.result
    (rw one at first) (rw two at second)
