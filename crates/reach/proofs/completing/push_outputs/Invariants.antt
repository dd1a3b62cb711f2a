use Rattle.std.proofs.Common.{◌≡◌, ◌+◌, length}
use Rattle.reach.proofs.completing.push_outputs.Given as goal

abbrev pub invariant-loop-latch : goal.invariant-loop-latch
invariant-loop-latch l = length l.bits ≡ length l.initial.bits + l.latch-index
