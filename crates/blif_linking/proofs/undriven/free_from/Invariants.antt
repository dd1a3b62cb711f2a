use Rattle.std.proofs.Common.{◌≡◌, drop, map}
use Rattle.blif_model.specs.FileKnown.{placing_in}
use Rattle.blif_model.specs.Names.{place_of}
use Rattle.blif_model.specs.Scanning.{word_of}
use Rattle.blif_linking.specs.Actuals.{at_place}
use Rattle.blif_linking.specs.Undriven.{first_free, free_from}
use Rattle.blif_linking.proofs.undriven.free_from.Given as goal

abbrev pub invariant-loop-line : goal.invariant-loop-line
invariant-loop-line l =
    free_from l.model.own.text.names l.model.own.driven l.found l.free (at_place (first_free l.free (map (word_of l.library.whole.now) l.model.own.firsts)))
    (place_of l.library.titles.now) l.library.interfaces.now 0 l.model.own.text.model.items (map (placing_in l.library.whole.now) l.model.placements)
    ≡ free_from l.model.own.text.names l.model.own.driven l.found l.free (at_place (first_free l.free (map (word_of l.library.whole.now) l.model.own.firsts)))
    (place_of l.library.titles.now) l.library.interfaces.now l.before l.items (map (placing_in l.library.whole.now) (drop l.line-index l.model.placements))
