-- Levels of kept clauses, and the frames that they are.
use Rattle.std.specs.Prelude.{◌≡◌, false, ℤ, List, [], ◌∷◌, ◌++◌, map, Option, Some, None}
use Rattle.std.specs.List.{All}
use Rattle.clauses.specs.Models.{meets}
use Rattle.reach_frames.specs.Bits.{values_of}
use Rattle.reach_frames.specs.Systems.{System, frame_at}
use Rattle.reach_frames.specs.declared.level.KeptClause.{KeptClause}
use Rattle.reach_frames.specs.declared.entry.Entry.{Entry}

-- the clauses of a level
abbrev pub clauses_of : List KeptClause → List (List ℤ)
clauses_of level = map (λ kept. kept.clause) level

-- the frames of levels: the clauses of a level, and then those of the levels above it
abbrev pub frames_of : List (List KeptClause) → List (List (List ℤ))
frames_of [] = []
frames_of (level ∷ levels) = (clauses_of level ++ frame_at (frames_of levels) 0) ∷ frames_of levels

-- what is noted beside a clause: two neighbouring states, of which the second misses it
abbrev pub NotedBeside : System → List ℤ → Option Entry → Type 0
NotedBeside system clause None = Unit {0}
NotedBeside system clause (Some entry) =
    system.follows entry.before entry.after × (meets (values_of entry.after) clause ≡ false)

abbrev pub IsWitnessed : System → KeptClause → Type 0
IsWitnessed system kept = NotedBeside system kept.clause kept.witness

-- every clause has beside it what may be noted there
abbrev pub AreWitnesses : System → List (List KeptClause) → Type 0
AreWitnesses system levels = All (All (IsWitnessed system)) levels
