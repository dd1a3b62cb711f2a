use Rattle.std.proofs.Common.{◌≡◌, take}
use Rattle.reach_frames.specs.Pooled.{literals_of}
use Rattle.reach_frames.proofs.words.literals_of.Given as goal

abbrev pub invariant-loop-word : goal.invariant-loop-word
invariant-loop-word l = l.list ≡ literals_of (take l.word-index l.words)
