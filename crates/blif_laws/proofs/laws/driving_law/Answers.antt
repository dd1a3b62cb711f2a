use Rattle.blif_laws.proofs.Hierarchies.{are-sound}
use Rattle.blif_laws.proofs.laws.driving_law.Goals as goal

pub returns : goal.returns
returns c text models texts is = are-sound text models texts is
