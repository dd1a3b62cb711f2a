use Rattle.clauses.proofs.Soundness.{no_model}
use Rattle.clauses.proofs.laws.refutation_law.Goals as goal

pub returns : goal.returns
returns c = λ variables formula log values within refutes model. no_model values variables formula log within refutes model
