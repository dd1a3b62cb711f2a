use Rattle.run_terms.proofs.NumberValues.{at_most-value, at_most-within, at_most-size, number_of-bits, bits_of_number-length, number_of-below}
use Rattle.run_terms.proofs.laws.number_law.Goals as goal

pub returns : goal.returns
returns c = record {
  value = at_most-value;
  within = at_most-within;
  size = at_most-size;
  bits = λ width number below. (number_of-bits width number below, bits_of_number-length width number);
  below = number_of-below;
}
