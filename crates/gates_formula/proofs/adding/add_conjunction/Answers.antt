use Rattle.std.proofs.Common.{rules, ◌++◌, neg_ℤ, [], ◌∷◌, w32}
use mir.Val.{SFits}
use Rattle.std.proofs.lemmas.Int.{to_z-of_z}
use Rattle.std.proofs.lemmas.Result.{err_from_is_err_and}
use Rattle.gates_formula.proofs.Additions.{Clauses, adds-first, adds-then}
use Rattle.gates_formula.proofs.adding.add_conjunction.Goals as goal

pub returns-in_err-add : goal.returns-in_err-add
returns-in_err-add c =
    let output = c.args.output in
    let first = c.args.first in
    let second = c.args.second in
    let fits_output : SFits w32 output = search rules in
    let fits_first : SFits w32 first = search rules in
    let fits_second : SFits w32 second = search rules in
    let fits_neither : SFits w32 c.negated-neither.result = search rules in
    let neither = simp to_z-of_z at c.negated-neither.ensures.is in
    let failed = simp to_z-of_z at c.in_err-add.ensures in
    let left : Clauses = (neg_ℤ output ∷ first ∷ []) ∷ [] in
    let rest : Clauses = (neg_ℤ output ∷ second ∷ []) ∷ (output ∷ neg_ℤ first ∷ neg_ℤ second ∷ []) ∷ [] in
    let p = err_from_is_err_and c.from_residual.result c.from_residual.ensures.1 in
    rw (p.1, p.2) (adds-first c.args.cnf.now c.add.new.cnf left rest c.in_err-add.field-0.0 (rw neither at failed))

pub returns-in_err-add-2 : goal.returns-in_err-add-2
returns-in_err-add-2 c =
    let output = c.args.output in
    let first = c.args.first in
    let second = c.args.second in
    let fits_output : SFits w32 output = search rules in
    let fits_first : SFits w32 first = search rules in
    let fits_second : SFits w32 second = search rules in
    let fits_neither : SFits w32 c.negated-neither.result = search rules in
    let neither = simp to_z-of_z at c.negated-neither.ensures.is in
    let added = simp to_z-of_z at c.in_ok-add.ensures in
    let failed = simp to_z-of_z at c.in_err-add-2.ensures in
    let left : Clauses = (neg_ℤ output ∷ first ∷ []) ∷ [] in
    let right : Clauses = (neg_ℤ output ∷ second ∷ []) ∷ [] in
    let last : Clauses = (output ∷ neg_ℤ first ∷ neg_ℤ second ∷ []) ∷ [] in
    let p = err_from_is_err_and c.from_residual-in_err-add-2.result c.from_residual-in_err-add-2.ensures.1 in
    rw (p.1, p.2) (adds-then c.args.cnf.now c.add.new.cnf c.add-2.new.cnf left (right ++ last) _ _ (rw neither at added)
    (adds-first c.add.new.cnf c.add-2.new.cnf right last c.in_err-add-2.field-0.0 (rw neither at failed)))

pub returns : goal.returns
returns c =
    let output = c.args.output in
    let first = c.args.first in
    let second = c.args.second in
    let fits_output : SFits w32 output = search rules in
    let fits_first : SFits w32 first = search rules in
    let fits_second : SFits w32 second = search rules in
    let fits_neither : SFits w32 c.negated-neither.result = search rules in
    let fits_one : SFits w32 c.negated.result = search rules in
    let fits_two : SFits w32 c.negated-2.result = search rules in
    let neither = simp to_z-of_z at c.negated-neither.ensures.is in
    let one = simp to_z-of_z at c.negated.ensures.is in
    let two = simp to_z-of_z at c.negated-2.ensures.is in
    let added = simp to_z-of_z at c.in_ok-add.ensures in
    let then = simp to_z-of_z at c.in_ok-add-2.ensures in
    let third = simp to_z-of_z at c.add-3.ensures in
    let left : Clauses = (neg_ℤ output ∷ first ∷ []) ∷ [] in
    let right : Clauses = (neg_ℤ output ∷ second ∷ []) ∷ [] in
    let last : Clauses = (output ∷ neg_ℤ first ∷ neg_ℤ second ∷ []) ∷ [] in
    adds-then c.args.cnf.now c.add.new.cnf c.add-3.new.cnf left (right ++ last) _ c.add-3.result (rw neither at added)
    (adds-then c.add.new.cnf c.add-2.new.cnf c.add-3.new.cnf right last _ c.add-3.result (rw neither at then) (rw (one, two) at third))
