use Rattle.std.proofs.Common.{rules, ◌+◌, ◌-◌, ◌<◌, map, neg_ℤ, [], ◌∷◌, List, ℤ, ℕ, arith, w32}
use mir.Val.{SFits}
use Rattle.std.specs.List.{range_with_len}
use Rattle.std.proofs.lemmas.Int.{to_z-of_z}
use Rattle.std.proofs.lemmas.Result.{err_from_is_err_and}
use Rattle.run_formulas.proofs.Additions.{so_far-err, so_far-step}
use Rattle.run_formulas.specs.Windows.{bad_at, good_clauses}
use Rattle.run_formulas.proofs.Parts.{number-next, position-fits}
use Rattle.run_formulas.proofs.windows.add_good.Goals as goal

pub good_literal-requires-clause-fits : goal.good_literal-requires-clause-fits
good_literal-requires-clause-fits c =
    omega (arith, position-fits c.args.size c.args.bad c.args.window c.loop-position.position c.args.cnf.now.variables c.requires.few (omega arith) c.requires.fits, c.args.cnf.now.few)

pub returns-in_err-add_unit : goal.returns-in_err-add_unit
returns-in_err-add_unit c =
    let size = c.args.size in
    let bad = c.args.bad in
    let window = c.args.window in
    let position = c.loop-position.position in
    let f : ℕ → List ℤ = λ i. neg_ℤ (bad_at size bad i) ∷ [] in
    let below : position < window = omega arith in
    let fits_literal : SFits w32 c.good_literal.result = search rules in
    let before = rw (number-next f window position below) at c.loop-position.invariant.so_far in
    let failed = rw c.good_literal.ensures.is at (simp to_z-of_z at c.in_err-add_unit.ensures) in
    let p = err_from_is_err_and c.from_residual.result c.from_residual.ensures.1 in
    rw (p.1, p.2) (so_far-err c.args.cnf.now c.loop-position.cnf c.add_unit.new.cnf (f position ∷ []) (map f (range_with_len (position + 1) (window - (position + 1)))) (good_clauses size bad window)
    c.in_err-add_unit.field-0.0 before failed)

pub loop-position-preserved : goal.loop-position-preserved
loop-position-preserved c =
    let size = c.args.size in
    let bad = c.args.bad in
    let window = c.args.window in
    let position = c.loop-position.position in
    let f : ℕ → List ℤ = λ i. neg_ℤ (bad_at size bad i) ∷ [] in
    let below : position < window = omega arith in
    let fits_literal : SFits w32 c.good_literal.result = search rules in
    let before = rw (number-next f window position below) at c.loop-position.invariant.so_far in
    let added = rw c.good_literal.ensures.is at (simp to_z-of_z at c.in_ok-add_unit.ensures) in
    record {
      so_far = so_far-step c.args.cnf.now c.loop-position.cnf c.add_unit.new.cnf (f position ∷ []) (map f (range_with_len (position + 1) (window - (position + 1)))) (good_clauses size bad window) _ before added;
    }
