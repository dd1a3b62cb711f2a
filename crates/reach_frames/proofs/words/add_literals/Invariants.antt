use Rattle.std.proofs.Common.{◌≡◌, ◌++◌, take}
use Rattle.reach_frames.specs.Pooled.{literals_of}
use Rattle.reach_frames.proofs.words.add_literals.Given as goal

abbrev pub invariant-loop-word : goal.invariant-loop-word
invariant-loop-word l = l.list.items ≡ l.fn.list.items ++ literals_of (take l.word-index l.words)
