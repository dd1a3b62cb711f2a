use Rattle.vcd_reader.proofs.Unknowns.{are-read}
use Rattle.vcd_reader.proofs.laws.values_law.Goals as goal

pub returns : goal.returns
returns c = are-read
