use Rattle.run_terms.proofs.Positions.{read-position, read-sizes, position-from, position_bits-length}
use Rattle.run_terms.proofs.laws.position_law.Goals as goal

pub returns : goal.returns
returns c = record {
  read = λ signals base values. (read-position signals base values, read-sizes signals base values);
  written = position-from;
  size = position_bits-length;
}
