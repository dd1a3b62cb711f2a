use Rattle.replay.proofs.First.{first-one, leaves-first}
use Rattle.replay.proofs.laws.first_law.Goals as goal

pub returns-clause-is : goal.returns-clause-is
returns-clause-is c = leaves-first

pub returns-clause-one : goal.returns-clause-one
returns-clause-one c = first-one
