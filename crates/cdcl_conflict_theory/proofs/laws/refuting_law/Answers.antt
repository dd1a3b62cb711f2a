use Rattle.cdcl_conflict_theory.proofs.Learning.{refuted}
use Rattle.cdcl_conflict_theory.proofs.laws.refuting_law.Goals as goal

pub returns : goal.returns
returns c = refuted
