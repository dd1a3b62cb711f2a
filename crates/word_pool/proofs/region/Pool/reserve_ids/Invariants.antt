use Rattle.std.proofs.Common.{◌-◌}
use Rattle.word_pool.proofs.Sound.{AddsIds}
use Rattle.word_pool.proofs.region.Pool.reserve_ids.Given as goal

abbrev pub invariant-loop : goal.invariant-loop
invariant-loop l = AddsIds l.fn.self l.self (l.counter - l.fn.self.spare_ids)
