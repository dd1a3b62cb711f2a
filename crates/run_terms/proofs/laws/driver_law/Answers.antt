use Rattle.run_terms.proofs.Driven.{driven-few}
use Rattle.run_terms.proofs.laws.driver_law.Goals as goal

pub returns : goal.returns
returns c = driven-few
