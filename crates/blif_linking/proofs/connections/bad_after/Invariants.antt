use Rattle.std.proofs.Common.{◌≡◌, [], drop, map}
use Rattle.blif_model.specs.Scanning.{word_of}
use Rattle.blif_linking.specs.Bad.{bad_after}
use Rattle.blif_linking.proofs.connections.bad_after.Given as goal

abbrev pub invariant-loop-word : goal.invariant-loop-word
invariant-loop-word l =
    bad_after l.interface [] (map (word_of l.whole) l.words)
    ≡ bad_after l.interface l.given (map (word_of l.whole) (drop l.word-index l.words))
