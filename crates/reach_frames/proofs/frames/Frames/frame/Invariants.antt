use Rattle.std.proofs.Common.{◌≡◌, ◌++◌}
use Rattle.reach_frames.specs.Searches.{frame_in}
use Rattle.reach_frames.proofs.frames.Frames.frame.Given as goal

-- with the rest of the levels it is the frame
abbrev pub invariant-loop-at : goal.invariant-loop-at
invariant-loop-at l = l.clauses ++ frame_in l.self l.at ≡ frame_in l.self l.place
