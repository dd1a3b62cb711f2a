use Rattle.std.proofs.Common.{sym, subst}
use Rattle.word_pool.specs.Region.{IsBounded}
use Rattle.word_pool.proofs.Sound.{bounded, used_is}
use Rattle.word_pool.proofs.region.Pool.used_words.Goals as goal

pub returns-clause-bounded : goal.returns-clause-bounded
returns-clause-bounded c = subst IsBounded c.self.view_is (bounded c.self.inside c.self.invariant)

pub returns-clause-used : goal.returns-clause-used
returns-clause-used c = rw (← c.self.view_is) (sym (used_is c.self.inside c.self.invariant))
