use Rattle.std.proofs.Common.{◌≡◌, drop, map}
use Rattle.blif_model.specs.FileKnown.{part_in}
use Rattle.blif_model.specs.Names.{place_of}
use Rattle.blif_linking.specs.Undriven.{undriven_among}
use Rattle.blif_linking.proofs.undriven.undriven_among.Given as goal

abbrev pub invariant-loop-model : goal.invariant-loop-model
invariant-loop-model l =
    undriven_among (place_of l.library.titles.now) l.library.interfaces.now (map (part_in l.library.whole.now) l.models)
    ≡ undriven_among (place_of l.library.titles.now) l.library.interfaces.now (map (part_in l.library.whole.now) (drop l.model-index l.models))
