use Rattle.blif_laws.proofs.Hierarchies.{flat-sound}
use Rattle.blif_laws.proofs.laws.soundness_law.Goals as goal

pub returns : goal.returns
returns c text models texts is few = flat-sound text models texts is few
