use Rattle.std.proofs.Common.{◌≡◌, false, [], get_or, take}
use Rattle.reach_frames.specs.Levels.{clauses_of}
use Rattle.reach_frames.specs.Marks.{has_part}
use Rattle.reach_frames.proofs.frames.Frames.level_has_part.Given as goal

abbrev pub invariant-loop-index : goal.invariant-loop-index
invariant-loop-index l = has_part (take l.index (clauses_of (get_or l.self l.place []))) l.clause ≡ false
