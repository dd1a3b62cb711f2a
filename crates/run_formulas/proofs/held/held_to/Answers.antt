use Rattle.std.proofs.Common.{◌≡◌, ◌*◌, suc, length, inr, refl, arith, ap, ◌∙◌}
use Rattle.std.proofs.lemmas.Result.{err_from_is_err_and}
use Rattle.clauses.specs.Literals.{clause_words}
use Rattle.gates_theory.specs.Unrolled.{units, unrolled}
use Rattle.gates_theory.proofs.Sizes.{words-append}
use Rattle.run_formulas.proofs.held.held_to.Goals as goal

pub returns-in_err-add_units-clause-large : goal.returns-in_err-add_units-clause-large
returns-in_err-add_units-clause-large c =
    let circuit = c.args.circuit.now in
    let last = c.args.last in
    let held = units (last * length circuit.gates) circuit.hold in
    let size : c.len-size.result ≡ length circuit.gates = c.len-size.ensures in
    let positions : c.in-Some.positions ≡ suc last = omega (arith, c.in-Some.ensures) in
    let words : clause_words c.in_ok-cnf.cnf.clauses ≡ clause_words (unrolled circuit (suc last)) =
    ap clause_words c.in_ok-cnf.ensures.clauses ∙ ap (λ k. clause_words (unrolled circuit k)) positions in
    let part : clause_words (units (last * c.len-size.result) c.as_slice.result.now) ≡ clause_words held = rw (size, c.as_slice.ensures) refl in
    let p = err_from_is_err_and c.from_residual-in_err-add_units.result c.from_residual-in_err-add_units.ensures.1 in
    rw (p.1, p.2) (λ large. inr (omega (arith, c.in_err-add_units.ensures.large large, words, part, words-append (unrolled circuit (suc last)) held)))
