use Rattle.gates.proofs.Words.{pairs-half}
use Rattle.gates.proofs.sizes.pairs.Goals as goal

pub returns : goal.returns
returns c = rw (c.from.ensures, c.from-2.ensures, c.saturating_sub.ensures) (pairs-half c.args.count)
