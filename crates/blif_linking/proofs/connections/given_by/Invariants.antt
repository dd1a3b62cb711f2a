use Rattle.std.proofs.Common.{◌≡◌, [], drop, map}
use Rattle.blif_model.specs.Scanning.{word_of}
use Rattle.blif_linking.specs.Bad.{given_by}
use Rattle.blif_linking.proofs.connections.given_by.Given as goal

abbrev pub invariant-loop-word : goal.invariant-loop-word
invariant-loop-word l =
    given_by [] (map (word_of l.whole) l.words) ≡ given_by l.given (map (word_of l.whole) (drop l.word-index l.words))
