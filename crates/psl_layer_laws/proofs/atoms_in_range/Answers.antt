use Rattle.psl_layer_laws.proofs.RangedStatements.{atoms-in-range}
use Rattle.psl_layer_laws.proofs.atoms_in_range.Goals as goal

pub returns : goal.returns
returns c = atoms-in-range
