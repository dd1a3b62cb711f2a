-- What unit propagation works on: clauses by number and a trail. A clause is a list of literals, as numbers.
use Rattle.std.specs.Prelude.{◌≡◌, ◌≢◌, ◌⊎◌, ℕ, ◌*◌, ◌<◌, ◌≤◌, List, ◌++◌, length, take, slice_index, Some}
use Rattle.std.specs.List.{All, Contains}
use Rattle.clauses.specs.Live.{Numbered, clause_of}
use Rattle.clauses.specs.Passing.{IsOpen}
use Rattle.cdcl_trail.specs.Literals.{opposite}
use Rattle.cdcl_trail.specs.Path.{Path, IsPath, literals_to}

-- the clauses, by number from 1; the trail; how many of its literals were propagated
pub record State : Type 0 where
  pub clauses : Numbered ℕ
  pub path : Path
  pub head : ℕ

-- A literal at a place of the trail is true because of a clause: the clause is live and has the literal, and its
-- other literals were false before.
pub record HasReason (clauses : Numbered ℕ) (path : Path) (place : ℕ) : Type 0 where
  pub clause : List ℕ
  pub live : clause_of clauses (slice_index path.reasons place) ≡ Some clause
  pub stands : Contains clause (slice_index path.literals place)
  pub others : All (λ other. (other ≡ slice_index path.literals place) ⊎ Contains (take place path.literals) (opposite other)) clause

-- a level begins at a place, and no clause is the reason there
abbrev pub IsDecision : Path → ℕ → Type 0
IsDecision path place = Contains path.limits place × (slice_index path.reasons place ≡ 0)

-- each literal of the trail has a reason, or a level begins with it
abbrev pub HasReasons : Numbered ℕ → Path → Type 0
HasReasons clauses path = (place : ℕ) → place < length path.literals → IsDecision path place ⊎ HasReason clauses path place

-- a live clause of which each literal is false
pub record IsConflict (clauses : Numbered ℕ) (path : Path) (number : ℕ) : Type 0 where
  pub clause : List ℕ
  pub live : clause_of clauses number ≡ Some clause
  pub false_ : All (λ literal. Contains path.literals (opposite literal)) clause

-- Propagation along a list of true literals has ended: each live clause has a true literal, or two that are not false.
abbrev pub HasEnded : Numbered ℕ → List ℕ → Type 0
HasEnded clauses trail = (number : ℕ) (clause : List ℕ) → clause_of clauses number ≡ Some clause → IsOpen opposite trail clause

-- What holds of a state at every moment. At each level below the current one propagation has ended, and at the
-- current one where all of the trail was propagated.
pub record IsSettled (state : State) : Type 0 where
  pub path : IsPath state.path
  pub within : (number : ℕ) (clause : List ℕ) → clause_of state.clauses number ≡ Some clause → All (λ literal. literal < 2 * state.path.variables) clause
  pub head : state.head ≤ length state.path.literals
  pub reasons : HasReasons state.clauses state.path
  pub levels : (level : ℕ) → level < length state.path.limits → HasEnded state.clauses (literals_to state.path level)
  pub ended : state.head ≡ length state.path.literals → HasEnded state.clauses state.path.literals

-- the trail has grown at its current level
pub record Extends (old new : Path) : Type 0 where
  pub variables : new.variables ≡ old.variables
  pub limits : new.limits ≡ old.limits
  pub more : List ℕ
  pub literals : new.literals ≡ old.literals ++ more

-- A clause can watch a literal: propagation was not yet there where it became false, if it is, and no level below the
-- current one has it false.
pub record CanWatch (state : State) (literal : ℕ) : Type 0 where
  pub ahead : Contains (take state.head state.path.literals) (opposite literal) → ⊥
  pub levels : (level : ℕ) → level < length state.path.limits → Contains (literals_to state.path level) (opposite literal) → ⊥

-- A clause can be learned: one literal of it is neither true nor false, and its others are false; another literal of it
-- is not false at any level below the current one.
pub record CanLearn (path : Path) (clause : List ℕ) (asserted other : ℕ) : Type 0 where
  pub has_asserted : Contains clause asserted
  pub not_true : Contains path.literals asserted → ⊥
  pub not_false : Contains path.literals (opposite asserted) → ⊥
  pub others : All (λ literal. (literal ≡ asserted) ⊎ Contains path.literals (opposite literal)) clause
  pub has_other : Contains clause other
  pub differs : asserted ≢ other
  pub levels : (level : ℕ) → level < length path.limits → Contains (literals_to path level) (opposite other) → ⊥
