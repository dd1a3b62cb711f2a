use Rattle.std.proofs.Common.{◌≡◌, [], drop, map}
use Rattle.blif_model.specs.Scanning.{word_of}
use Rattle.blif_linking.specs.Interfaces.{texts_of}
use Rattle.blif_linking.specs.Sets.{gathered}
use Rattle.blif_linking.proofs.interface.clock_names.Given as goal

abbrev pub invariant-loop-word : goal.invariant-loop-word
invariant-loop-word l =
    gathered [] (texts_of (map (word_of l.whole) l.words))
    ≡ gathered l.found (texts_of (map (word_of l.whole) (drop l.word-index l.words)))
