use Rattle.vcd_reader.proofs.Joining.{places-counted}
use Rattle.vcd_reader.proofs.laws.places_law.Goals as goal

pub returns : goal.returns
returns c = places-counted
