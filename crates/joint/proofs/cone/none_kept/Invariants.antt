use Rattle.std.proofs.Common.{◌≡◌, length}
use Rattle.joint.proofs.cone.none_kept.Given as goal

abbrev pub invariant-loop-place : goal.invariant-loop-place
invariant-loop-place l = length l.bits ≡ l.place
