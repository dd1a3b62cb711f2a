use Rattle.std.proofs.Common.{◌∙◌}
use Rattle.cdcl.proofs.load.add_clause.Goals as goal

pub returns-in_ok-attach_unit-in-None-2 : goal.returns-in_ok-attach_unit-in-None-2
returns-in_ok-attach_unit-in-None-2 c =
    let ensures = c.in_ok-attach_unit-in-None-2.ensures in
    record { clauses = ensures.clauses; variables = ensures.variables; limits = ensures.limits ∙ c.requires.limits; head = ensures.head ∙ c.requires.head }
