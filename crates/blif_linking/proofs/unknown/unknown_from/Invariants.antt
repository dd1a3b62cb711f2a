use Rattle.std.proofs.Common.{◌≡◌, drop, map}
use Rattle.blif_model.specs.FileKnown.{part_in}
use Rattle.blif_model.specs.Names.{place_of}
use Rattle.blif_linking.specs.Names.{unknown_from}
use Rattle.blif_linking.proofs.unknown.unknown_from.Given as goal

abbrev pub invariant-loop-model : goal.invariant-loop-model
invariant-loop-model l =
    unknown_from (place_of l.titles) (map (part_in l.whole) l.models)
    ≡ unknown_from (place_of l.titles) (map (part_in l.whole) (drop l.model-index l.models))
