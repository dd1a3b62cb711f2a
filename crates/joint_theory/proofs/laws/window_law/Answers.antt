use Rattle.joint_theory.proofs.Closed.{closed-later}
use Rattle.joint_theory.proofs.laws.window_law.Goals as goal

pub returns : goal.returns
returns c = closed-later
