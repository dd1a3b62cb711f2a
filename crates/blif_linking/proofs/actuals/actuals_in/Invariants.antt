use Rattle.std.proofs.Common.{◌≡◌, ◌++◌, drop, map}
use Rattle.blif_model.specs.Scanning.{word_of}
use Rattle.blif_linking.specs.Actuals.{actual_in, mentions_in}
use Rattle.blif_linking.proofs.actuals.actuals_in.Given as goal

abbrev pub invariant-loop-word : goal.invariant-loop-word
invariant-loop-word l =
    mentions_in l.interface (map (word_of l.whole) l.words)
    ≡ map (actual_in l.whole) l.actuals.items ++ mentions_in l.interface (map (word_of l.whole) (drop l.word-index l.words))
