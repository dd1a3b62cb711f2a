use Rattle.std.proofs.Common.{◌*◌, arith}
use Rattle.std.proofs.lemmas.Result.{err_from_is_err_and}
use Rattle.gates_theory.specs.Distinct.{pair_clauses, row_clauses, variables_before}
use Rattle.gates.specs.Adding.{pair_of}
use Rattle.gates.proofs.Additions.{list-fits, list-err}
use Rattle.gates.proofs.states.add_row.Goals as goal

pub add_pair-requires-clause-fits : goal.add_pair-requires-clause-fits
add_pair-requires-clause-fits c =
    let circuit = c.args.circuit.now in
    let variables = c.args.variables in
    let later = c.args.later in
    rw (c.loop-earlier.invariant.used, c.len-size.ensures)
    (list-fits c.args.clauses.now c.loop-earlier.clauses (λ earlier. pair_clauses circuit (variables_before circuit variables earlier later) earlier later) later c.loop-earlier.earlier
    (omega arith) c.requires.fits c.loop-earlier.invariant.added)

pub returns-in_err-add_pair-clause-added : goal.returns-in_err-add_pair-clause-added
returns-in_err-add_pair-clause-added c =
    let circuit = c.args.circuit.now in
    let variables = c.args.variables in
    let later = c.args.later in
    let p = err_from_is_err_and c.from_residual.result c.from_residual.ensures.1 in
    rw (p.1, p.2) (list-err {A = Unit {0}} {B = Unit {0}} c.args.clauses.now c.loop-earlier.clauses c.add_pair.new.clauses (row_clauses circuit variables later c.loop-earlier.earlier)
    (pair_of circuit c.loop-earlier.used (c.loop-earlier.earlier * c.len-size.result) (later * c.len-size.result)) (row_clauses circuit variables later later)
    c.in_err-add_pair.field-0.0 c.loop-earlier.invariant.added c.in_err-add_pair.ensures.added)
