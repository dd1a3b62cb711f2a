use Rattle.cdcl_conflict_theory.proofs.Learning.{learned}
use Rattle.cdcl_conflict_theory.proofs.laws.learning_law.Goals as goal

pub returns : goal.returns
returns c = learned
