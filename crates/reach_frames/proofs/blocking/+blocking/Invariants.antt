use Rattle.std.proofs.Common.{◌≡◌, ◌+◌, ◌*◌, ◌<◌, is_some}
use Rattle.reach_frames.specs.Bits.{left}
use Rattle.reach_frames.specs.Searches.{frame_in, frame_before, AreNarrowed, IsKeptOut}
use Rattle.reach_frames.proofs.blocking.+blocking.Given as goal

-- room falls from one state of a path to the one before it, and the four functions take turns in between
abbrev pub decreases-block : goal.decreases-block
decreases-block g l = 4 * l.task.now.room + 3

abbrev pub decreases-keep_out : goal.decreases-keep_out
decreases-keep_out g l = 4 * l.task.now.room + 2

abbrev pub decreases-come_to : goal.decreases-come_to
decreases-come_to g l = 4 * l.task.now.room + 1

abbrev pub decreases-come_exactly : goal.decreases-come_exactly
decreases-come_exactly g l = 4 * l.task.now.room

abbrev pub invariant-block-loop-place : goal.invariant-block-loop-place
invariant-block-loop-place g l = record {
  narrowed : AreNarrowed (g.M.Machine.system l.machine) l.fn.frames l.frames;
  budget : is_some l.budget ≡ is_some l.fn.budget;
  kept_out : l.first < l.place → IsKeptOut (frame_in l.frames l.first) l.task.cube;
}

abbrev pub invariant-keep_out-loop-alloc : goal.invariant-keep_out-loop-alloc
invariant-keep_out-loop-alloc g l = record {
  narrowed : AreNarrowed (g.M.Machine.system l.machine) l.fn.frames l.frames;
  budget : is_some l.budget ≡ is_some l.fn.budget;
}

-- fewer states are left in the frame before, since each turn keeps one out
abbrev pub decreases-keep_out-loop-alloc : goal.decreases-keep_out-loop-alloc
decreases-keep_out-loop-alloc g l = left (g.M.Machine.system l.machine).width (frame_before l.frames l.place)
