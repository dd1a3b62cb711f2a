use Rattle.std.proofs.Common.{◌≡◌, drop, map}
use Rattle.blif_model.specs.FileKnown.{placing_in}
use Rattle.blif_model.specs.Names.{place_of}
use Rattle.blif_linking.specs.Names.{first_some, unknown_word}
use Rattle.blif_linking.proofs.unknown.unknown_in.Given as goal

abbrev pub invariant-loop-line : goal.invariant-loop-line
invariant-loop-line l =
    first_some (unknown_word (place_of l.titles)) (map (placing_in l.whole) l.lines)
    ≡ first_some (unknown_word (place_of l.titles)) (map (placing_in l.whole) (drop l.line-index l.lines))
