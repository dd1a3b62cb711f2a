use Rattle.blif_flat.proofs.Sound.{sound}
use Rattle.blif_flat.proofs.laws.soundness_law.Goals as goal

pub returns : goal.returns
returns c models texts limit most are room = sound models texts limit most are room
