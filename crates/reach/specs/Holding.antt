-- Frames that keep the bad states out, where a search has such.
use Rattle.std.specs.Prelude.{◌≡◌, ℕ, ◌≤◌, ◌<◌, ◌-◌, ℤ, List, length}
use Rattle.joint.specs.Joined.{Joined}
use Rattle.reach.specs.Systems.{system_of}
use Rattle.reach.specs.declared.answer.FrameCount.{FrameCount}
use Rattle.reach_frames.specs.Systems.{frame_at, AreSound, MissesGoal}

-- there are so many frames of the joint states, each of which keeps the bad states out, and the last has so many clauses
pub record HaveHeld (joined : Joined) (count : FrameCount) : Type 0 where
  pub frames : List (List (List ℤ))
  pub many : length frames ≡ count.frames
  pub some : 1 ≤ count.frames
  pub sound : AreSound (system_of joined) frames
  pub kept : (place : ℕ) → place < length frames → MissesGoal (system_of joined) (frame_at frames place)
  pub last : length (frame_at frames (count.frames - 1)) ≡ count.clauses
