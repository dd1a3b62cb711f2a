use Rattle.std.proofs.Common.{◌-◌, ◌<◌, ◌≤◌, length}
use Rattle.reach_frames.specs.Searches.{IsClosed}
use Rattle.reach_frames.proofs.learning.raise.Given as goal

abbrev pub invariant-loop-level : goal.invariant-loop-level
invariant-loop-level g l = record {
  later : l.place ≤ l.level;
  framed : l.level < length l.frames;
  closed : IsClosed (g.M.Machine.system l.machine) l.frames l.level l.cube;
}

abbrev pub decreases-loop-level : goal.decreases-loop-level
decreases-loop-level g l = l.count - l.level
