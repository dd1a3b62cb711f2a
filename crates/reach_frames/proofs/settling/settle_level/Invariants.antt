use Rattle.std.proofs.Common.{◌-◌, ◌<◌, [], length, get_or, is_some, IsTrue, IfSome}
use Rattle.reach_frames.specs.Searches.{frame_in, AreSettled}
use Rattle.reach_frames.specs.Systems.{IsStuck}
use Rattle.reach_frames.proofs.settling.settle_level.Given as goal

abbrev pub invariant-loop-index : goal.invariant-loop-index
invariant-loop-index g l = record {
  settled : AreSettled (g.M.Machine.system l.machine) l.place l.fn.frames l.frames;
  some : 0 < l.index → IsTrue (is_some l.stuck);
  stuck : IfSome l.stuck (IsStuck (g.M.Machine.system l.machine) (frame_in l.fn.frames l.place));
}

abbrev pub decreases-loop-index : goal.decreases-loop-index
decreases-loop-index g l = length (get_or l.frames l.place []) - l.index
