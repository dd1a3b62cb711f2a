use Rattle.std.proofs.Common.{◌≡◌, take}
use Rattle.replay.proofs.leaving.leaving_latches.Given as goal
use Rattle.replay.specs.ByBits.{lowest_latch}

abbrev pub invariant-loop-latch : goal.invariant-loop-latch
invariant-loop-latch l = l.lowest ≡ lowest_latch (take l.latch-index l.latches) l.at_first l.earlier l.values
