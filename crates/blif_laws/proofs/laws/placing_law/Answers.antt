use Rattle.blif_laws.proofs.Hierarchies.{placements-closed, placements-formed}
use Rattle.blif_laws.proofs.laws.placing_law.Goals as goal

pub returns-clause-closed : goal.returns-clause-closed
returns-clause-closed c parts known fit = placements-closed parts known fit

pub returns-clause-form : goal.returns-clause-form
returns-clause-form c parts known fit = placements-formed parts known fit
