use Rattle.std.proofs.Common.{◌≡◌}
use Rattle.reach_frames.specs.Marks.{has_part}
use Rattle.reach_frames.specs.Searches.{frame_in}
use Rattle.reach_frames.proofs.frames.Frames.has_part.Given as goal

-- what the rest of the levels has, the frame has
abbrev pub invariant-loop-at : goal.invariant-loop-at
invariant-loop-at l = has_part (frame_in l.self l.at) l.clause ≡ has_part (frame_in l.self l.place) l.clause
