use Rattle.trace.proofs.Letters.{letters-are}
use Rattle.trace.proofs.laws.word_law.Goals as goal

pub returns : goal.returns
returns c = letters-are
