use Rattle.std.proofs.Common.{◌≡◌, ◌++◌, ℕ, List, drop, map}
use Rattle.std.specs.Vec.Iter.{into_iter_items}
use Rattle.blif_model.specs.FileKnown.{placing_in}
use Rattle.blif_linking.specs.Numbering.{woven}
use Rattle.blif_linking.proofs.numbering.woven.Given as goal

abbrev pub invariant-loop-line : goal.invariant-loop-line
invariant-loop-line l =
    (whole : List ℕ) → woven l.numbers 0 l.fn.items (map (placing_in whole) l.lines) l.fn.placed
    ≡ l.all ++ woven l.numbers l.before (into_iter_items l.left) (map (placing_in whole) (drop l.line-index l.lines)) (into_iter_items l.places)
