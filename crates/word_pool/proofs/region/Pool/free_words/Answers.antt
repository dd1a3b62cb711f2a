use Rattle.std.proofs.Common.{subst}
use Rattle.word_pool.specs.Region.{IsBounded}
use Rattle.word_pool.proofs.Sound.{bounded}
use Rattle.word_pool.proofs.region.Pool.free_words.Goals as goal

pub returns-clause-bounded : goal.returns-clause-bounded
returns-clause-bounded c = subst IsBounded c.self.view_is (bounded c.self.inside c.self.invariant)
