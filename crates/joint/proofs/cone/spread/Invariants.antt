use Rattle.std.proofs.Common.{◌≡◌, length}
use Rattle.joint.proofs.cone.spread.Given as goal

abbrev pub invariant-loop-turn : goal.invariant-loop-turn
invariant-loop-turn l = length l.kept ≡ length l.initial.kept
