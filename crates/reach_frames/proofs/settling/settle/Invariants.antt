use Rattle.std.proofs.Common.{◌≡◌, ℕ, ◌<◌, [], length, get_or}
use Rattle.reach_frames.specs.Searches.{frame_in, AreNarrowed}
use Rattle.reach_frames.specs.Systems.{IsStuck}
use Rattle.reach_frames.proofs.settling.settle.Given as goal

abbrev pub invariant-loop-place : goal.invariant-loop-place
invariant-loop-place g l = record {
  narrowed : AreNarrowed (g.M.Machine.system l.machine) l.fn.frames l.frames;
  many : length l.stuck ≡ l.place;
  stuck : (place : ℕ) → place < l.place → IsStuck (g.M.Machine.system l.machine) (frame_in l.frames place) (get_or l.stuck place []);
}
