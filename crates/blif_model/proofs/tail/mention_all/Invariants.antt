use Rattle.std.proofs.Common.{◌≡◌, ◌++◌, drop, map}
use Rattle.blif_model.specs.Models.{mention_as}
use Rattle.blif_model.specs.Names.{names_fault_in, numbers_in, with_mentions}
use Rattle.blif_model.specs.Scanning.{word_of}
use Rattle.blif_model.proofs.tail.mention_all.Given as goal

abbrev pub invariant-loop-word : goal.invariant-loop-word
invariant-loop-word l =
    let whole = l.initial.signals.whole in
    let all = map (mention_as l.drives) (map (word_of whole) l.words) in
    let left = map (mention_as l.drives) (map (word_of whole) (drop l.word-index l.words)) in
    record {
      whole : l.signals.whole ≡ whole;
      named : with_mentions l.initial.signals all ≡ with_mentions l.signals left;
      numbers : l.initial.numbers ++ numbers_in l.initial.signals all ≡ l.numbers ++ numbers_in l.signals left;
      fault : names_fault_in l.initial.signals all ≡ names_fault_in l.signals left;
    }
