use Rattle.std.proofs.Common.{◌≡◌, true, take}
use Rattle.std.specs.Int.{cast_signed, w32}
use Rattle.std.specs.List.{list_all}
use Rattle.reach_frames.specs.Marks.{is_among}
use Rattle.reach_frames.proofs.words.are_part.Given as goal

abbrev pub invariant-loop-word : goal.invariant-loop-word
invariant-loop-word l = list_all (λ word. is_among l.clause (cast_signed w32 word)) (take l.word-index l.words) ≡ true
