use Rattle.std.proofs.Common.{◌≡◌, take}
use Rattle.reach_frames.specs.Levels.{frames_of}
use Rattle.reach.proofs.ending.opened.Given as goal

abbrev pub invariant-loop-place : goal.invariant-loop-place
invariant-loop-place l = l.lists ≡ take l.place (frames_of l.frames)
