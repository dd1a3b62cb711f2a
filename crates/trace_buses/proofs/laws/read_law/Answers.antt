use Rattle.trace_buses.proofs.Following.{buses-read}
use Rattle.trace_buses.proofs.laws.read_law.Goals as goal

pub returns : goal.returns
returns c = buses-read
