use Rattle.std.proofs.Common.{◌≡◌, ◌++◌, [], drop, map}
use Rattle.std.specs.Option.{option_map, unwrap_or}
use Rattle.blif_model.specs.Scanning.{word_of}
use Rattle.blif_linking.specs.Numbering.{joined_by}
use Rattle.blif_linking.proofs.numbering.joined_by.Given as goal

abbrev pub invariant-loop-word : goal.invariant-loop-word
invariant-loop-word l =
    joined_by l.interface (unwrap_or (option_map (λ formals. formals.now) l.formals) []) l.names (map (word_of l.whole) l.words)
    ≡ l.joined ++ joined_by l.interface (unwrap_or (option_map (λ formals. formals.now) l.formals) []) l.names (map (word_of l.whole) (drop l.word-index l.words))
