use Rattle.blif_flat.proofs.Unfolded.{is-unfolded}
use Rattle.blif_flat.proofs.laws.unfolding_law.Goals as goal

pub returns : goal.returns
returns c models texts most whole formed = is-unfolded models texts most whole formed
