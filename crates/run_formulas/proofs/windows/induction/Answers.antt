use Rattle.std.proofs.Common.{rules, ◌≡◌, ◌*◌, ◌++◌, ◌∷◌, [], suc, length, inr, ap, ◌∙◌, w32}
use mir.Val.{SFits}
use Rattle.std.proofs.lemmas.Int.{to_z-of_z}
use Rattle.std.proofs.lemmas.Result.{err_from_is_err_and}
use Rattle.gates_theory.specs.Distinct.{distinct}
use Rattle.run_formulas.specs.Adding.{held_to}
use Rattle.run_formulas.specs.Windows.{bad_at, good_clauses}
use Rattle.run_formulas.proofs.Parts.{late-first_of, late-second_of}
use Rattle.run_formulas.proofs.windows.induction.Goals as goal

pub returns-in_err-add_good-clause-large : goal.returns-in_err-add_good-clause-large
returns-in_err-add_good-clause-large c =
    let circuit = c.args.circuit.now in
    let size = length circuit.gates in
    let bad = c.args.bad in
    let window = c.args.window in
    let large = rw c.len-size.ensures at c.in_err-add_good.ensures in
    let p = err_from_is_err_and c.from_residual-in_err-add_good.result c.from_residual-in_err-add_good.ensures.1 in
    rw (p.1, p.2) (λ e. inr (late-first_of c.in_ok-cnf.cnf.clauses (held_to circuit window) (good_clauses size bad window) ((bad_at size bad window ∷ []) ∷ []) (distinct circuit (suc window * size) window)
    c.in_ok-cnf.ensures.clauses (large.large e)))

pub returns-in_err-add_unit-clause-large : goal.returns-in_err-add_unit-clause-large
returns-in_err-add_unit-clause-large c =
    let circuit = c.args.circuit.now in
    let size = length circuit.gates in
    let bad = c.args.bad in
    let window = c.args.window in
    let fits_literal : SFits w32 c.bad_literal.result = search rules in
    let good = rw c.len-size.ensures at c.in_ok-add_good.ensures.ok in
    let mid : c.add_good.new.cnf.clauses ≡ held_to circuit window ++ good_clauses size bad window = good ∙ ap (λ k. k ++ good_clauses size bad window) c.in_ok-cnf.ensures.clauses in
    let large = rw (c.bad_literal.ensures.is, c.len-size.ensures) at (simp to_z-of_z at c.in_err-add_unit.ensures) in
    let p = err_from_is_err_and c.from_residual-in_err-add_unit.result c.from_residual-in_err-add_unit.ensures.1 in
    rw (p.1, p.2) (λ e. inr (late-second_of c.add_good.new.cnf.clauses (held_to circuit window) (good_clauses size bad window) ((bad_at size bad window ∷ []) ∷ []) (distinct circuit (suc window * size) window)
    mid (large.large e)))
