use Rattle.joint_theory.proofs.Soundness.{none-accepted}
use Rattle.joint_theory.proofs.laws.soundness_law.Goals as goal

pub returns : goal.returns
returns c = none-accepted
