use Rattle.std.proofs.Common.{rules, ◌≡◌, suc, ◌<◌, pos, negsuc, neg_ℤ, [], ◌∷◌, length, drop, get_or, arith, w32, add-one}
use mir.Val.{SFits}
use Rattle.std.proofs.lemmas.Int.{to_z-of_z}
use Rattle.std.proofs.lemmas.Result.{err_from_is_err_and}
use Rattle.gates_theory.specs.Unrolled.{moved}
use Rattle.joint_selectors.specs.Missed.{missed}
use Rattle.run_formulas.proofs.Additions.{so_far-err, so_far-step}
use Rattle.joint.proofs.Adding.{missed-drop, within-next}
use Rattle.joint.proofs.missing.add_missed_clause.Goals as goal

pub returns-in_err-add_clause : goal.returns-in_err-add_clause
returns-in_err-add_clause c =
    let i = c.loop-i.i in
    let base = c.args.base in
    let before = c.args.before in
    let clause = c.args.clause.now in
    let below : i < length clause = omega arith in
    let here = get_or clause i (pos 0) in
    let fits_here : SFits w32 here = search rules in
    let fits_moved : SFits w32 c.moved_negation.result = search rules in
    let fits_selector : SFits w32 c.unselected-selector.result = search rules in
    let moved_is : c.moved_negation.result ≡ neg_ℤ (moved base here) = simp to_z-of_z at c.moved_negation.ensures in
    let failed = rw (c.unselected-selector.ensures, moved_is) at (simp to_z-of_z at c.in_err-add_clause.ensures) in
    let left = rw (missed-drop base before clause i below) at c.loop-i.invariant.so_far in
    let p = err_from_is_err_and c.from_residual.result c.from_residual.ensures.1 in
    rw (p.1, p.2) (so_far-err c.args.cnf.now c.loop-i.cnf c.add_clause.new.cnf ((negsuc before ∷ neg_ℤ (moved base here) ∷ []) ∷ [])
    (missed base before (drop (suc i) clause)) (missed base before clause) c.in_err-add_clause.field-0.0 left failed)

pub loop-i-preserved : goal.loop-i-preserved
loop-i-preserved c =
    let i = c.loop-i.i in
    let base = c.args.base in
    let before = c.args.before in
    let clause = c.args.clause.now in
    let below : i < length clause = omega arith in
    let here = get_or clause i (pos 0) in
    let fits_here : SFits w32 here = search rules in
    let fits_moved : SFits w32 c.moved_negation.result = search rules in
    let fits_selector : SFits w32 c.unselected-selector.result = search rules in
    let moved_is : c.moved_negation.result ≡ neg_ℤ (moved base here) = simp to_z-of_z at c.moved_negation.ensures in
    let added = rw (c.unselected-selector.ensures, moved_is) at (simp to_z-of_z at c.in_ok-add_clause.ensures) in
    let left = rw (missed-drop base before clause i below) at c.loop-i.invariant.so_far in
    record {
      so_far = rw add-one (so_far-step c.args.cnf.now c.loop-i.cnf c.add_clause.new.cnf ((negsuc before ∷ neg_ℤ (moved base here) ∷ []) ∷ [])
          (missed base before (drop (suc i) clause)) (missed base before clause) _ left added);
      within = rw add-one (within-next c.args.size clause i below c.loop-i.invariant.within);
    }
