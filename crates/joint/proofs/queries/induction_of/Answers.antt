use Rattle.std.proofs.Common.{◌∙◌}
use Rattle.joint.proofs.Windows.{induction-is, induction-large}
use Rattle.joint.proofs.queries.induction_of.Goals as goal

pub returns-in-Ok-clause-clauses : goal.returns-in-Ok-clause-clauses
returns-in-Ok-clause-clauses c =
    let product = c.args.product in
    c.in-Ok.ensures.clauses
    ∙ induction-is product.netlist.now product.violation.now product.visits c.args.circuit.now c.bad_variable-bad.result
    c.requires.circuit c.bad_variable-bad.ensures.is c.args.window

pub returns-in-Err-clause-large : goal.returns-in-Err-clause-large
returns-in-Err-clause-large c = λ e.
    let product = c.args.product in
    induction-large product.netlist.now product.violation.now product.visits c.args.circuit.now c.bad_variable-bad.result
    c.requires.circuit c.bad_variable-bad.ensures.is c.args.window (c.in-Err.ensures.large e)
