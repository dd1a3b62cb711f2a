use Rattle.blif_laws.proofs.Hierarchies.{names-all, runs, unfolds}
use Rattle.blif_laws.proofs.laws.unfolding_law.Goals as goal

pub returns-clause-unfolds : goal.returns-clause-unfolds
returns-clause-unfolds c text models texts is = unfolds text models texts is

pub returns-clause-names : goal.returns-clause-names
returns-clause-names c text models texts is = names-all text models texts is

pub returns-clause-runs : goal.returns-clause-runs
returns-clause-runs c text models texts is = runs text models texts is
