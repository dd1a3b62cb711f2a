use Rattle.psl_sugar.proofs.NumberLaws.{compares_numbers}
use Rattle.psl_sugar.proofs.laws.comparisons.Goals as goal

pub returns : goal.returns
returns c = compares_numbers
