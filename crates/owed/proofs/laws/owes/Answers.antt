use Rattle.owed.proofs.LawsHold.{owes-holds}
use Rattle.owed.proofs.laws.owes.Goals as goal

pub returns : goal.returns
returns c = owes-holds c.args.unit.now c.args.directive.now
