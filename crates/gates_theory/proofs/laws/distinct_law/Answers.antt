use Rattle.gates_theory.proofs.Filling.{distinct-models, distinct-extends}
use Rattle.gates_theory.proofs.laws.distinct_law.Goals as goal

pub returns : goal.returns
returns c = record { models = distinct-models; extends = distinct-extends }
