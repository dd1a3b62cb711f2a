use Rattle.std.proofs.Common.{arith}
use Rattle.std.proofs.lemmas.Result.{err_from_is_err_and}
use Rattle.gates_theory.specs.Distinct.{distinct, row_clauses}
use Rattle.gates.proofs.Additions.{list-fits, list-err}
use Rattle.gates.proofs.Rows.{rows-more}
use Rattle.gates.proofs.states.add_states.Goals as goal

pub add_row-requires-clause-few : goal.add_row-requires-clause-few
add_row-requires-clause-few c =
    omega (arith, c.requires.few, rows-more c.args.circuit.now c.args.variables c.loop-later.later c.args.positions (omega arith))

pub add_row-requires-clause-fits : goal.add_row-requires-clause-fits
add_row-requires-clause-fits c =
    list-fits c.args.clauses.now c.loop-later.clauses (λ later. row_clauses c.args.circuit.now c.args.variables later later) c.args.positions c.loop-later.later
    (omega arith) c.requires.fits c.loop-later.invariant.added

pub returns-in_err-add_row : goal.returns-in_err-add_row
returns-in_err-add_row c =
    let circuit = c.args.circuit.now in
    let variables = c.args.variables in
    let later = c.loop-later.later in
    let p = err_from_is_err_and c.from_residual.result c.from_residual.ensures.1 in
    rw (p.1, p.2) (list-err {A = Unit {0}} {B = Unit {0}} c.args.clauses.now c.loop-later.clauses c.add_row.new.clauses (distinct circuit variables later)
    (row_clauses circuit variables later later) (distinct circuit variables c.args.positions) c.in_err-add_row.field-0.0 c.loop-later.invariant.added c.in_err-add_row.ensures.added)
