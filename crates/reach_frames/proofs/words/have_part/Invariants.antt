use Rattle.std.proofs.Common.{◌≡◌, true, take}
use Rattle.std.specs.List.{list_all}
use Rattle.reach_frames.specs.Pooled.{stands_in}
use Rattle.reach_frames.proofs.words.have_part.Given as goal

abbrev pub invariant-loop-literal : goal.invariant-loop-literal
invariant-loop-literal l = list_all (stands_in l.words) (take l.literal-index l.clause) ≡ true
