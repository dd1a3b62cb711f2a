use Rattle.blif_laws.proofs.Bounds.{as-many-places}
use Rattle.blif_laws.proofs.Hierarchies.{outputs-are-within, signals-few, tables-few}
use Rattle.blif_laws.proofs.laws.bounds_law.Goals as goal

pub returns-clause-signals : goal.returns-clause-signals
returns-clause-signals c text models texts is = signals-few text models texts is

pub returns-clause-tables : goal.returns-clause-tables
returns-clause-tables c text models texts is = tables-few text models texts is

pub returns-clause-outputs : goal.returns-clause-outputs
returns-clause-outputs c models texts = as-many-places models texts

pub returns-clause-within : goal.returns-clause-within
returns-clause-within c text models texts is = outputs-are-within text models texts is
