use Rattle.trace.proofs.VectorSamples.{vectors-read}
use Rattle.trace.proofs.laws.vectors_law.Goals as goal

pub returns : goal.returns
returns c = vectors-read
