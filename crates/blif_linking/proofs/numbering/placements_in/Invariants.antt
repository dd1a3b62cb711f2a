use Rattle.std.proofs.Common.{◌≡◌, take, map}
use Rattle.blif_model.specs.FileKnown.{placing_in}
use Rattle.blif_model.specs.Names.{place_of}
use Rattle.blif_linking.specs.Numbering.{placement_in}
use Rattle.blif_linking.proofs.numbering.placements_in.Given as goal

abbrev pub invariant-loop-line : goal.invariant-loop-line
invariant-loop-line l =
    l.placed ≡ map (placement_in (place_of l.library.titles.now) l.library.interfaces.now l.texts l.names) (map (placing_in l.library.whole.now) (take l.line-index l.lines))
