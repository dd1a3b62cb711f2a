use Rattle.cdcl_conflict_theory.proofs.Returning.{unit_after, not_false_before}
use Rattle.cdcl_conflict_theory.proofs.laws.returning_law.Goals as goal

pub returns-clause-asserted : goal.returns-clause-asserted
returns-clause-asserted c = unit_after

pub returns-clause-not_false : goal.returns-clause-not_false
returns-clause-not_false c = not_false_before
