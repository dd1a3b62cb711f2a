-- Systems of states, and what frames are of one.
use Rattle.std.specs.Prelude.{◌≡◌, ℕ, zero, suc, ◌+◌, ◌<◌, ℤ, Bool as Truth, false, List, [], length, IsTrue, slice_index_or}
use Rattle.std.specs.List.{All, Contains}
use Rattle.clauses.specs.Literals.{is_within}
use Rattle.clauses.specs.Models.{is_true}
use Rattle.reach_frames.specs.Bits.{values_of, is_met, is_in_cube}
use Rattle.reach_frames.specs.Cubes.{IsFrame}
use Rattle.reach_frames.specs.declared.entry.Entry.{Entry}

-- states of so many bits: which a run begins in, which may follow which, and a literal that is true in those that are to
-- be kept out
pub record System : Type 1 where
  pub width : ℕ
  pub goal : ℤ
  pub begins : List Truth → Type 0
  pub follows : List Truth → List Truth → Type 0
  pub size : (state : List Truth) → begins state → length state ≡ width
  pub sizes : (state next : List Truth) → follows state next → (length state ≡ width) × (length next ≡ width)
  pub goal_within : IsTrue (is_within width goal)

-- the clauses of a frame; behind the last one there are none
abbrev pub frame_at : List (List (List ℤ)) → ℕ → List (List ℤ)
frame_at frames place = slice_index_or frames place []

-- the clauses of the frame before; before the first there are none
abbrev pub before_of : List (List (List ℤ)) → ℕ → List (List ℤ)
before_of frames zero = []
before_of frames (suc place) = frame_at frames place

-- Frames are sound: a state that begins meets each of them, one that follows a state of a frame meets the next, and the
-- clauses of a frame stand among those of the one before.
pub record AreSound (system : System) (frames : List (List (List ℤ))) : Type 0 where
  pub framed : (place : ℕ) → IsFrame system.width (frame_at frames place)
  pub begun : (place : ℕ) (state : List Truth) → system.begins state → IsTrue (is_met (frame_at frames place) state)
  pub step : (place : ℕ) (state next : List Truth) → IsTrue (is_met (before_of frames place) state)
      → (place ≡ 0 → system.begins state) → system.follows state next → IsTrue (is_met (frame_at frames place) next)
  pub among : (place : ℕ) → All (Contains (frame_at frames place)) (frame_at frames (suc place))

-- two states lead into a cube: the first meets a frame, is outside the cube, and begins where that is asked
pub record IsEntry (system : System) (frame : List (List ℤ)) (initial : Truth) (cube : List ℤ) (entry : Entry) : Type 0 where
  pub follows : system.follows entry.before entry.after
  pub meets : IsTrue (is_met frame entry.before)
  pub outside : is_in_cube cube entry.before ≡ false
  pub inside : IsTrue (is_in_cube cube entry.after)
  pub begins : IsTrue initial → system.begins entry.before

-- a state follows one that meets a frame, and misses it
pub record IsStuck (system : System) (frame : List (List ℤ)) (state : List Truth) : Type 0 where
  pub before : List Truth
  pub meets : IsTrue (is_met frame before)
  pub follows : system.follows before state
  pub misses : is_met frame state ≡ false

-- no state in which the goal is true meets clauses
abbrev pub MissesGoal : System → List (List ℤ) → Type 0
MissesGoal system clauses =
    (state : List Truth) → IsTrue (is_true (values_of state) system.goal) → is_met clauses state ≡ false

-- an inductive invariant, as clauses, that keeps the goal out
pub record IsInvariant (system : System) (clauses : List (List ℤ)) : Type 0 where
  pub framed : IsFrame system.width clauses
  pub begun : (state : List Truth) → system.begins state → IsTrue (is_met clauses state)
  pub step : (state next : List Truth) → IsTrue (is_met clauses state) → system.follows state next
      → IsTrue (is_met clauses next)
  pub kept : MissesGoal system clauses

-- Sound frames keep the goal out, and each but the last is open: its stuck state follows another one, meets the next frame
-- and misses it.
pub record AreOpen (system : System) (frames : List (List (List ℤ))) (stuck : List (List Truth)) : Type 0 where
  pub sound : AreSound system frames
  pub kept : (place : ℕ) → place < length frames → MissesGoal system (frame_at frames place)
  pub many : length stuck + 1 ≡ length frames
  pub follows : (place : ℕ) → place < length stuck
      → (before : List Truth) × system.follows before (slice_index_or stuck place [])
  pub meets : (place : ℕ) → place < length stuck
      → IsTrue (is_met (frame_at frames (suc place)) (slice_index_or stuck place []))
  pub misses : (place : ℕ) → place < length stuck → is_met (frame_at frames place) (slice_index_or stuck place []) ≡ false
