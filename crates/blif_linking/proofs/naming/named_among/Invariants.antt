use Rattle.std.proofs.Common.{◌≡◌, take, map}
use Rattle.blif_model.specs.FileKnown.{part_in}
use Rattle.blif_model.specs.Names.{place_of}
use Rattle.blif_linking.specs.Naming.{named_within}
use Rattle.blif_linking.proofs.naming.named_among.Given as goal

abbrev pub invariant-loop-model : goal.invariant-loop-model
invariant-loop-model l =
    l.texts ≡ map (named_within (place_of l.library.titles.now) l.library.interfaces.now) (map (part_in l.library.whole.now) (take l.model-index l.models))
