-- Paths of states.
use Rattle.std.specs.Prelude.{ℕ, suc, ◌-◌, ◌<◌, ◌≤◌, Bool as Truth, List, [], length, IsTrue, slice_index_or}
use Rattle.clauses.specs.Models.{is_true}
use Rattle.reach_frames.specs.Bits.{values_of}
use Rattle.reach_frames.specs.Systems.{System}

-- the last state of a path
abbrev pub last_of : List (List Truth) → List Truth
last_of path = slice_index_or path (length path - 1) []

-- a path of some states: the first begins, and each other one follows the one before it
pub record IsLed (system : System) (path : List (List Truth)) : Type 0 where
  pub some : 0 < length path
  pub begun : system.begins (slice_index_or path 0 [])
  pub followed : (place : ℕ) → suc place < length path
      → system.follows (slice_index_or path place []) (slice_index_or path (suc place) [])

-- a path of at most so many states to one in which the goal is true
pub record IsViolation (system : System) (most : ℕ) (path : List (List Truth)) : Type 0 where
  pub led : IsLed system path
  pub goal : IsTrue (is_true (values_of (last_of path)) system.goal)
  pub few : length path ≤ most
