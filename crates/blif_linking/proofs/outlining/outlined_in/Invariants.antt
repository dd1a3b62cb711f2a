use Rattle.std.proofs.Common.{◌≡◌, take, map}
use Rattle.blif_model.specs.FileKnown.{placing_in}
use Rattle.blif_model.specs.Names.{place_of}
use Rattle.blif_linking.specs.Bare.{outlined_placing}
use Rattle.blif_linking.proofs.outlining.outlined_in.Given as goal

abbrev pub invariant-loop-line : goal.invariant-loop-line
invariant-loop-line l = l.items ≡ map (outlined_placing (place_of l.titles)) (map (placing_in l.whole) (take l.line-index l.lines))
