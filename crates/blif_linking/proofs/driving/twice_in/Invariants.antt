use Rattle.std.proofs.Common.{◌≡◌, [], drop, map}
use Rattle.blif_model.specs.FileKnown.{placing_in}
use Rattle.blif_model.specs.Names.{place_of}
use Rattle.blif_linking.specs.Driving.{twice_in}
use Rattle.blif_linking.proofs.driving.twice_in.Given as goal

abbrev pub invariant-loop-line : goal.invariant-loop-line
invariant-loop-line l =
    twice_in l.own.text.names l.own.driven (place_of l.library.titles.now) l.library.interfaces.now [] (map (placing_in l.library.whole.now) l.lines)
    ≡ twice_in l.own.text.names l.own.driven (place_of l.library.titles.now) l.library.interfaces.now l.found (map (placing_in l.library.whole.now) (drop l.line-index l.lines))
