use Rattle.std.proofs.Common.{◌∙◌}
use Rattle.joint.proofs.Windows.{base-is, base-large}
use Rattle.joint.proofs.queries.base_of.Goals as goal

pub returns-in-Ok-base-clause-clauses : goal.returns-in-Ok-base-clause-clauses
returns-in-Ok-base-clause-clauses c =
    let product = c.args.product in
    c.in-Ok-base.ensures.clauses
    ∙ base-is product.netlist.now product.violation.now product.visits c.args.circuit.now c.bad_variable-bad.result
    c.requires.circuit c.bad_variable-bad.ensures.is c.as_slice.result.now (c.as_slice.ensures ∙ c.in-Ok.ensures) c.args.window

pub returns-clause-large : goal.returns-clause-large
returns-clause-large c = λ e.
    let product = c.args.product in
    base-large product.netlist.now product.violation.now product.visits c.args.circuit.now c.bad_variable-bad.result
    c.requires.circuit c.bad_variable-bad.ensures.is c.as_slice.result.now (c.as_slice.ensures ∙ c.in-Ok.ensures) c.args.window
    (c.in-Err-base.ensures.large e)
