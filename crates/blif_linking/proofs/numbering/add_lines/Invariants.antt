use Rattle.std.proofs.Common.{◌≡◌, ◌++◌, take, drop, map}
use Rattle.std.specs.Vec.Iter.{into_iter_items}
use Rattle.blif_linking.specs.Numbering.{renumbered}
use Rattle.blif_linking.proofs.numbering.add_lines.Given as goal

abbrev pub invariant-loop-more : goal.invariant-loop-more
invariant-loop-more l = record {
  all :
      l.initial.all ++ map (renumbered l.numbers) (take l.count (into_iter_items l.initial.left))
      ≡ l.all ++ map (renumbered l.numbers) (take l.more (into_iter_items l.left));
  left : drop l.count (into_iter_items l.initial.left) ≡ drop l.more (into_iter_items l.left);
}

abbrev pub decreases-loop-more : goal.decreases-loop-more
decreases-loop-more l = l.more
