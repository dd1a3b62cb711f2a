use Rattle.std.proofs.Common.{◌≡◌, ◌++◌, drop, length, map}
use Rattle.std.specs.Vec.Iter.{into_iter_items}
use Rattle.blif_model.specs.FileKnown.{IsModelWithin, part_in}
use Rattle.std.specs.Prelude.{All}
use Rattle.blif_model.specs.Names.{place_of}
use Rattle.blif_linking.specs.Numbering.{numbered_among}
use Rattle.blif_linking.proofs.numbering.numbered_among.Given as goal

abbrev pub invariant-loop-model : goal.invariant-loop-model
invariant-loop-model l = record {
  linked :
      numbered_among (place_of l.library.titles.now) l.library.interfaces.now l.texts l.texts (map (part_in l.library.whole.now) l.fn.models)
      ≡ l.linked ++ numbered_among (place_of l.library.titles.now) l.library.interfaces.now l.texts (drop l.number l.texts) (map (part_in l.library.whole.now) (into_iter_items l.rest));
  within : All (IsModelWithin l.library.whole.now) (into_iter_items l.rest);
}

abbrev pub decreases-loop-model : goal.decreases-loop-model
decreases-loop-model l = length (into_iter_items l.rest)
