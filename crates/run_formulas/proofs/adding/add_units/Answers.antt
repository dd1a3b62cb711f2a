use Rattle.std.proofs.Common.{rules, ◌≡◌, suc, ◌<◌, pos, [], ◌∷◌, length, drop, get_or, arith, w32}
use mir.Val.{SFits}
use Rattle.std.proofs.lemmas.Int.{to_z-of_z}
use Rattle.std.proofs.lemmas.Result.{err_from_is_err_and}
use Rattle.gates_theory.specs.Unrolled.{moved, units}
use Rattle.run_formulas.proofs.Additions.{so_far-err, units-drop}
use Rattle.run_formulas.proofs.adding.add_units.Goals as goal

pub returns-in_err-add_unit : goal.returns-in_err-add_unit
returns-in_err-add_unit c =
    let i = c.loop-i.i in
    let base = c.args.base in
    let literals = c.args.literals.now in
    let below : i < length literals = omega arith in
    let here = get_or literals i (pos 0) in
    let fits_here : SFits w32 here = search rules in
    let fits_moved : SFits w32 c.moved.result = search rules in
    let moved_is : c.moved.result ≡ moved base here = simp to_z-of_z at c.moved.ensures in
    let failed = rw moved_is at (simp to_z-of_z at c.in_err-add_unit.ensures) in
    let left = rw (units-drop base literals i below) at c.loop-i.invariant.so_far in
    let p = err_from_is_err_and c.from_residual.result c.from_residual.ensures.1 in
    rw (p.1, p.2) (so_far-err c.args.cnf.now c.loop-i.cnf c.add_unit.new.cnf ((moved base here ∷ []) ∷ []) (units base (drop (suc i) literals)) (units base literals)
    c.in_err-add_unit.field-0.0 left failed)
