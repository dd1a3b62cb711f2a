use Rattle.std.proofs.Common.{◌≡◌, map, take, None}
use Rattle.replay.proofs.bits.missing_latch.Given as goal
use Rattle.replay.specs.ByBits.{missing_among}

abbrev pub invariant-loop-latch : goal.invariant-loop-latch
invariant-loop-latch l = missing_among l.bits (take l.latch-index (map (λ latch. latch.output) l.latches)) ≡ None
