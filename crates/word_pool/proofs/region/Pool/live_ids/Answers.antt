use Rattle.std.proofs.Common.{arith}
use Rattle.word_pool.proofs.Sound.{live_and_vacant}
use Rattle.word_pool.proofs.region.Pool.live_ids.Goals as goal

pub returns : goal.returns
returns c = record { live = rw (← c.self.view_is) (omega (arith, live_and_vacant c.self.inside c.self.invariant)) }
