use Rattle.std.proofs.Common.{◌≡◌, drop, map}
use Rattle.blif_model.specs.FileKnown.{part_in}
use Rattle.blif_model.specs.Names.{place_of}
use Rattle.blif_linking.specs.Bad.{bad_among}
use Rattle.blif_linking.proofs.connections.bad_among.Given as goal

abbrev pub invariant-loop-model : goal.invariant-loop-model
invariant-loop-model l =
    bad_among (place_of l.library.titles.now) l.library.interfaces.now (map (part_in l.library.whole.now) l.models)
    ≡ bad_among (place_of l.library.titles.now) l.library.interfaces.now (map (part_in l.library.whole.now) (drop l.model-index l.models))
