use Rattle.std.proofs.Common.{◌≡◌, take}
use Rattle.reach_frames.specs.Pooled.{literals_of}
use Rattle.reach_frames.proofs.words.words_of.Given as goal

abbrev pub invariant-loop-literal : goal.invariant-loop-literal
invariant-loop-literal l = literals_of l.words.items ≡ take l.literal-index l.list
