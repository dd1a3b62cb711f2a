use Rattle.run_terms.proofs.BooleanValues.{boolean-value, boolean-within, boolean-gates}
use Rattle.run_terms.proofs.laws.boolean_law.Goals as goal

pub returns : goal.returns
returns c = record { value = boolean-value; within = boolean-within; size = boolean-gates }
