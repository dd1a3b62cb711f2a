use Rattle.std.proofs.Common.{◌≡◌, ℕ, ◌++◌, List, map, take, All}
use Rattle.blif_model.specs.Scanning.{IsWithin, word_of}
use Rattle.blif_model.proofs.file_reader.add_words.Given as goal

abbrev pub invariant-loop-word : goal.invariant-loop-word
invariant-loop-word l = record {
  added : (whole : List ℕ) → map (word_of whole) l.all ≡ map (word_of whole) l.initial.all ++ map (word_of whole) (take l.word-index l.words);
  within : (whole : List ℕ) → All (IsWithin whole) l.initial.all → All (IsWithin whole) l.words → All (IsWithin whole) l.all;
}
