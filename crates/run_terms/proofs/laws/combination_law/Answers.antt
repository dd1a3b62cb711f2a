use Rattle.run_terms.proofs.PositiveValues.{positive-value, positive-within, positive-gates}
use Rattle.run_terms.proofs.laws.combination_law.Goals as goal

pub returns : goal.returns
returns c = record { value = positive-value; within = positive-within; size = positive-gates }
