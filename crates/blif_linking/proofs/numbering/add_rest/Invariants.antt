use Rattle.std.proofs.Common.{◌≡◌, ◌++◌, length, map}
use Rattle.std.specs.Vec.Iter.{into_iter_items}
use Rattle.blif_linking.specs.Numbering.{renumbered}
use Rattle.blif_linking.proofs.numbering.add_rest.Given as goal

abbrev pub invariant-loop-item : goal.invariant-loop-item
invariant-loop-item l =
    l.initial.all ++ map (renumbered l.numbers) (into_iter_items l.fn.left) ≡ l.all ++ map (renumbered l.numbers) (into_iter_items l.rest)

abbrev pub decreases-loop-item : goal.decreases-loop-item
decreases-loop-item l = length (into_iter_items l.rest)
