use Rattle.std.proofs.Common.{◌≡◌, ◌++◌, [], get_or, take}
use Rattle.reach_frames.specs.Levels.{clauses_of}
use Rattle.reach_frames.proofs.frames.Frames.add_level.Given as goal

abbrev pub invariant-loop-index : goal.invariant-loop-index
invariant-loop-index l = l.clauses ≡ l.fn.clauses ++ take l.index (clauses_of (get_or l.self l.place []))
