use Rattle.std.proofs.Common.{◌≡◌, take}
use Rattle.std.specs.List.{filter}
use Rattle.reach_frames.specs.Marks.{is_marked}
use Rattle.reach_frames.proofs.bits.marked.Given as goal

abbrev pub invariant-loop-literal : goal.invariant-loop-literal
invariant-loop-literal l = l.part ≡ filter (is_marked l.mask) (take l.literal-index l.cube)
