use Rattle.std.proofs.Common.{◌≡◌, take, map}
use Rattle.blif_model.specs.FileKnown.{part_in}
use Rattle.blif_model.specs.Names.{place_of}
use Rattle.blif_linking.specs.Bare.{outlined_part}
use Rattle.blif_linking.proofs.outlining.outlined.Given as goal

abbrev pub invariant-loop-model : goal.invariant-loop-model
invariant-loop-model l = l.all ≡ map (outlined_part (place_of l.titles)) (map (part_in l.whole) (take l.model-index l.models))
