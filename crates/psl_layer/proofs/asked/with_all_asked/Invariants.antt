use Rattle.std.proofs.Common.{length}
use Rattle.std.specs.Vec.Iter.{into_iter_items}
use Rattle.psl_layer.proofs.Longer.{IsSettling}
use Rattle.psl_layer.proofs.asked.with_all_asked.Given as goal

abbrev pub invariant-loop-one : goal.invariant-loop-one
invariant-loop-one l = IsSettling l.clock l.fn.unit l.unit l.fn.asked.items (into_iter_items l.rest)

abbrev pub decreases-loop-one : goal.decreases-loop-one
decreases-loop-one l = length (into_iter_items l.rest)
