use Rattle.joint_theory.proofs.Soundness.{inductive-none}
use Rattle.joint_theory.proofs.laws.inductive_law.Goals as goal

pub returns : goal.returns
returns c = inductive-none
