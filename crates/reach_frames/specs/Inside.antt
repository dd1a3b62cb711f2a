-- The fields of frames: the levels that they stand for, and what they keep.
use Rattle.std.specs.Prelude.{List}
use Rattle.word_pool.specs.Region.{list_of}
use Rattle.reach_frames.specs.Pooled.{levels_of, AreHeldOnce}
use Rattle.reach_frames.specs.declared.frames.Frames.TheInside.{Inside}
use Rattle.reach_frames.specs.declared.level.KeptClause.{KeptClause}

abbrev pub levels_in : Inside → List (List KeptClause)
levels_in frames = levels_of (list_of frames.pool) frames.levels.items

-- no list of the pool is shared, and none is lost
abbrev pub ArePooled : Inside → Type 0
ArePooled frames = AreHeldOnce (list_of frames.pool) frames.levels.items
