use Rattle.std.proofs.Common.{◌≡◌, drop, map}
use Rattle.blif_model.specs.FileKnown.{placing_in}
use Rattle.blif_model.specs.Names.{place_of}
use Rattle.blif_linking.specs.Bad.{bad_placing}
use Rattle.blif_linking.specs.Names.{first_some}
use Rattle.blif_linking.proofs.connections.bad_in.Given as goal

abbrev pub invariant-loop-line : goal.invariant-loop-line
invariant-loop-line l =
    first_some (bad_placing (place_of l.library.titles.now) l.library.interfaces.now) (map (placing_in l.library.whole.now) l.lines)
    ≡ first_some (bad_placing (place_of l.library.titles.now) l.library.interfaces.now) (map (placing_in l.library.whole.now) (drop l.line-index l.lines))
