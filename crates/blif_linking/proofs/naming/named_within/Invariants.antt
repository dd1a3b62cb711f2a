use Rattle.std.proofs.Common.{◌≡◌, [], drop, map}
use Rattle.blif_model.specs.FileKnown.{placing_in}
use Rattle.blif_model.specs.Names.{place_of}
use Rattle.blif_linking.specs.Naming.{named_from}
use Rattle.blif_linking.proofs.naming.named_within.Given as goal

abbrev pub invariant-loop-line : goal.invariant-loop-line
invariant-loop-line l =
    named_from l.model.own.text.names (place_of l.library.titles.now) l.library.interfaces.now [] 0 l.model.own.text.model.items (map (placing_in l.library.whole.now) l.model.placements)
    ≡ named_from l.model.own.text.names (place_of l.library.titles.now) l.library.interfaces.now l.names l.before l.items (map (placing_in l.library.whole.now) (drop l.line-index l.model.placements))
