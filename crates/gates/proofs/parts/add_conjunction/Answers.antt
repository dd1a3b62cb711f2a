use Rattle.std.proofs.Common.{rules, ◌++◌, neg_ℤ, [], ◌∷◌, w32}
use mir.Val.{SFits}
use Rattle.std.proofs.lemmas.Int.{to_z-of_z}
use Rattle.gates.proofs.Additions.{Clauses, adds-then}
use Rattle.gates.proofs.parts.add_conjunction.Goals as goal

pub returns : goal.returns
returns c =
    let output = c.args.output in
    let first = c.args.first in
    let second = c.args.second in
    let fits_output : SFits w32 output = search rules in
    let fits_first : SFits w32 first = search rules in
    let fits_second : SFits w32 second = search rules in
    let fits_negated : SFits w32 c.negated.result = search rules in
    let fits_negated-2 : SFits w32 c.negated-2.result = search rules in
    let fits_negated-3 : SFits w32 c.negated-3.result = search rules in
    let fits_negated-4 : SFits w32 c.negated-4.result = search rules in
    let one = simp to_z-of_z at c.negated.ensures in
    let two = simp to_z-of_z at c.negated-2.ensures in
    let three = simp to_z-of_z at c.negated-3.ensures in
    let four = simp to_z-of_z at c.negated-4.ensures in
    let a = simp to_z-of_z at c.in_ok-add_2.ensures.ok in
    let b = simp to_z-of_z at c.in_ok-add_2-2.ensures.ok in
    let d = simp to_z-of_z at c.add_3.ensures in
    let left : Clauses = (neg_ℤ output ∷ first ∷ []) ∷ [] in
    let right : Clauses = (neg_ℤ output ∷ second ∷ []) ∷ [] in
    let last : Clauses = (output ∷ neg_ℤ first ∷ neg_ℤ second ∷ []) ∷ [] in
    adds-then c.args.clauses.now c.add_2.new.clauses c.add_3.new.clauses left (right ++ last) c.add_3.result (rw one at a)
    (adds-then c.add_2.new.clauses c.add_2-2.new.clauses c.add_3.new.clauses right last c.add_3.result (rw two at b) (rw (three, four) at d))
