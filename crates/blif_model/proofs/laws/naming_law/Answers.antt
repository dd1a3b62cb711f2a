use Rattle.blif_model.proofs.Naming.{naming-names, naming-rule, naming-fault, naming-more}
use Rattle.blif_model.proofs.laws.naming_law.Goals as goal

pub returns-clause-names : goal.returns-clause-names
returns-clause-names c = naming-names

pub returns-clause-rule : goal.returns-clause-rule
returns-clause-rule c = naming-rule

pub returns-clause-fault : goal.returns-clause-fault
returns-clause-fault c = naming-fault

pub returns-clause-more : goal.returns-clause-more
returns-clause-more c = naming-more
