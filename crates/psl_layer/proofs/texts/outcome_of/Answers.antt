use Rattle.psl_layer.proofs.Whole.{statements_found}
use Rattle.psl_layer.proofs.texts.outcome_of.Goals as goal

pub returns-in-Statements : goal.returns-in-Statements
returns-in-Statements c =
    statements_found c.args.tree.now c.args.names.now c.in-Statements.all c.nothing.result c.with_statements.result c.in-Statements.is c.nothing.ensures
    (rw c.as_slice-in-Statements.ensures at c.with_statements.ensures)
