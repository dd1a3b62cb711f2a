-- Frames that keep the bad states out are some that a search has.
use Rattle.std.proofs.Common.{◌≡◌, ◌∙◌, sym, ap, ℕ, ◌<◌, ◌-◌, List, length, arith}
use Rattle.std.specs.Prelude.{Bool as Truth}
use Rattle.joint.specs.Joined.{Joined}
use Rattle.reach_frames.proofs.LevelFrames.{frame_count}
use Rattle.reach_frames.specs.Levels.{frames_of}
use Rattle.reach_frames.specs.Searches.{frame_in}
use Rattle.reach_frames.specs.Systems.{AreOpen}
use Rattle.reach_frames.specs.declared.level.KeptClause.{KeptClause}
use Rattle.reach.specs.Holding.{HaveHeld}
use Rattle.reach.specs.Systems.{system_of}
use Rattle.reach.specs.declared.answer.FrameCount.{FrameCount}

pub have-held : (joined : Joined) (levels : List (List KeptClause)) (stuck : List (List Truth)) (count : FrameCount) → 0 < length levels
    → AreOpen (system_of joined) (frames_of levels) stuck → count.frames ≡ length levels
    → count.clauses ≡ length (frame_in levels (length levels - 1)) → HaveHeld joined count
have-held joined levels stuck count some kept frames clauses = record {
  frames = frames_of levels;
  many = frame_count levels ∙ sym frames;
  some = omega (arith, some, frames);
  sound = kept.sound;
  kept = kept.kept;
  last = ap (λ (n : ℕ). length (frame_in levels (n - 1))) frames ∙ sym clauses;
}
