use Rattle.std.proofs.Common.{◌≡◌, length}
use Rattle.joint.proofs.cone.keep_also.Given as goal

abbrev pub invariant-loop-signal : goal.invariant-loop-signal
invariant-loop-signal l = length l.kept ≡ length l.initial.kept
