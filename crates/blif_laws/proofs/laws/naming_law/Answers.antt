use Rattle.blif_laws.proofs.Hierarchies.{lists-instances, lists-names, names-are-plain}
use Rattle.blif_laws.proofs.laws.naming_law.Goals as goal

pub returns-clause-names : goal.returns-clause-names
returns-clause-names c text models texts is = lists-names text models texts is

pub returns-clause-instances : goal.returns-clause-instances
returns-clause-instances c text models texts is = lists-instances text models texts is

pub returns-clause-plain : goal.returns-clause-plain
returns-clause-plain c text models texts is = names-are-plain text models texts is
