use Rattle.std.proofs.Common.{◌<◌, length}
use Rattle.cdcl.proofs.order.sift_up.Given as goal

abbrev pub invariant-loop-place : goal.invariant-loop-place
invariant-loop-place l = l.place < length l.heap

abbrev pub decreases-loop-place : goal.decreases-loop-place
decreases-loop-place l = l.place
