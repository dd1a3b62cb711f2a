-- What the parts of a search keep and find.
use Rattle.std.specs.Prelude.{◌≡◌, ℕ, ◌+◌, ◌<◌, ◌≤◌, ℤ, Bool as Truth, false, List, length, IsTrue, Option, is_some}
use Rattle.clauses.specs.declared.flat.TheConstants.{MOST_VARIABLES}
use Rattle.reach_frames.specs.Bits.{is_met, is_in_cube}
use Rattle.reach_frames.specs.Cubes.{IsCube}
use Rattle.reach_frames.specs.Entries.{HasNoEntry}
use Rattle.reach_frames.specs.Levels.{frames_of, AreWitnesses}
use Rattle.reach_frames.specs.Paths.{last_of, IsLed}
use Rattle.reach_frames.specs.Systems.{System, frame_at, before_of, AreSound}
use Rattle.reach_frames.specs.declared.blocking.Blocked.{Blocked}
use Rattle.reach_frames.specs.declared.blocking.Blocked.TheVariants.{Out, Path, Paused}
use Rattle.reach_frames.specs.declared.blocking.Task.{Task}
use Rattle.reach_frames.specs.declared.learning.Learned.{Learned}
use Rattle.reach_frames.specs.declared.level.KeptClause.{KeptClause}

-- the clauses of a frame of levels, and those of the frame before
abbrev pub frame_in : List (List KeptClause) → ℕ → List (List ℤ)
frame_in levels place = frame_at (frames_of levels) place

abbrev pub frame_before : List (List KeptClause) → ℕ → List (List ℤ)
frame_before levels place = before_of (frames_of levels) place

-- what every part of a search needs of its levels
pub record AreReady (system : System) (levels : List (List KeptClause)) : Type 0 where
  pub few : system.width ≤ MOST_VARIABLES
  pub sound : AreSound system (frames_of levels)
  pub witnessed : AreWitnesses system levels

-- what every part of a search does to its levels: they stay ready and as many, and no state meets a frame that missed it
pub record AreNarrowed (system : System) (old new : List (List KeptClause)) : Type 0 where
  pub ready : AreReady system new
  pub many : length new ≡ length old
  pub less : (place : ℕ) (state : List Truth) → IsTrue (is_met (frame_in new place) state)
      → IsTrue (is_met (frame_in old place) state)

-- Levels were narrowed, and the frames up to a place say what they said.
pub record AreSettled (system : System) (place : ℕ) (old new : List (List KeptClause)) : Type 0 where
  pub narrowed : AreNarrowed system old new
  pub same : (other : ℕ) (state : List Truth) → other ≤ place
      → is_met (frame_in new other) state ≡ is_met (frame_in old other) state

-- no state of a cube begins
abbrev pub IsUnbegun : System → List ℤ → Type 0
IsUnbegun system cube = (state : List Truth) → system.begins state → is_in_cube cube state ≡ false

-- no state that begins is in a cube, and nothing leads into it
pub record IsShut (system : System) (frame : List (List ℤ)) (initial : Truth) (cube : List ℤ) : Type 0 where
  pub is_cube : IsCube system.width cube
  pub unbegun : IsUnbegun system cube
  pub closed : HasNoEntry system frame initial cube

-- The clause that keeps a cube out may be added to the frames up to a place: no state that begins is in the cube, and none
-- of the frame before leads into it from outside.
pub record IsClosed (system : System) (levels : List (List KeptClause)) (place : ℕ) (cube : List ℤ) : Type 0 where
  pub is_cube : IsCube system.width cube
  pub unbegun : IsUnbegun system cube
  pub closed : (state next : List Truth) → IsTrue (is_met (frame_before levels place) state)
      → is_in_cube cube state ≡ false → (place ≡ 0 → system.begins state) → system.follows state next
      → is_in_cube cube next ≡ false

-- each state of a cube is in another
abbrev pub IsWithin : List ℤ → List ℤ → Type 0
IsWithin cube other = (state : List Truth) → IsTrue (is_in_cube cube state) → IsTrue (is_in_cube other state)

-- each state of a cube misses clauses
abbrev pub IsKeptOut : List (List ℤ) → List ℤ → Type 0
IsKeptOut clauses cube = (state : List Truth) → IsTrue (is_in_cube cube state) → is_met clauses state ≡ false

-- What is learned of a cube: a cube that has all its states, and whose clause may be added to the frames up to a level,
-- which is not before a place.
pub record IsLearned (system : System) (levels : List (List KeptClause)) (cube : List ℤ) (place : ℕ) (learned : Learned) : Type 0 where
  pub within : IsWithin cube learned.cube
  pub later : place ≤ learned.level
  pub framed : learned.level < length levels
  pub closed : IsClosed system levels learned.level learned.cube

-- a task can be taken up at a frame: there is one, and fewer frames before it than there is room
pub record IsTask (system : System) (levels : List (List KeptClause)) (task : Task) (place : ℕ) : Type 0 where
  pub cube : IsCube system.width task.cube
  pub framed : place < length levels
  pub room : place < task.room

-- a path into a cube, of at most so many states
pub record IsLedInto (system : System) (cube : List ℤ) (most : ℕ) (path : List (List Truth)) : Type 0 where
  pub led : IsLed system path
  pub inside : IsTrue (is_in_cube cube (last_of path))
  pub few : length path ≤ most

-- how a task ends: with what was to be shown, a path, or a budget that is spent
abbrev pub IsBlocked : System → Task → Option ℕ → Type 0 → Blocked → Type 0
IsBlocked system task budget shown Out = shown
IsBlocked system task budget shown (Path path) = IsLedInto system task.cube (task.room + 1) path
IsBlocked system task budget shown Paused = IsTrue (is_some budget)
