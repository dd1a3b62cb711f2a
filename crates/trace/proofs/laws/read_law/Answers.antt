use Rattle.trace.proofs.Accepting.{trace-read}
use Rattle.trace.proofs.laws.read_law.Goals as goal

pub returns : goal.returns
returns c = trace-read
