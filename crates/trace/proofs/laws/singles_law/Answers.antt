use Rattle.trace.proofs.Singles.{says-same, text-same}
use Rattle.trace.proofs.laws.singles_law.Goals as goal

pub returns : goal.returns
returns c = record { text = text-same; says = says-same }
