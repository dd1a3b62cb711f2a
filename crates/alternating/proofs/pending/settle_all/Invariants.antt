use Rattle.std.proofs.Common.{◌≡◌, ◌++◌, length}
use Rattle.std.specs.Vec.Iter.{into_iter_items}
use Rattle.alternating.specs.Pending.{pendings_of}
use Rattle.alternating.specs.Views.{obligations_of_code}
use Rattle.alternating.proofs.pending.settle_all.Given as goal

abbrev pub invariant-loop-pending : goal.invariant-loop-pending
invariant-loop-pending l = obligations_of_code l.settled.items ++ pendings_of (into_iter_items l.rest) ≡ pendings_of l.fn.pendings.items

abbrev pub decreases-loop-pending : goal.decreases-loop-pending
decreases-loop-pending l = length (into_iter_items l.rest)
