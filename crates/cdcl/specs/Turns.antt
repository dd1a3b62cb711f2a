-- The trail as the analysis of a conflict reads it, and what a decision needs.
use Rattle.std.specs.Prelude.{◌≡◌, ◌⊎◌, ℕ, ◌+◌, ◌-◌, ◌*◌, ◌^◌, ◌<◌}
use Rattle.std.specs.Prelude.{◌≤◌, ◌↔◌, Bool, true, false, List, length, slice_index, slice_index_or}
use Rattle.std.specs.List.{All, Contains}
use Rattle.clause_store.specs.declared.region.TheConstants.{MOST_WORDS}
use Rattle.clause_store.specs.Stored.{stored_words}
use Rattle.cdcl_trail.specs.Literals.{opposite}
use Rattle.cdcl_trail.specs.Path.{Path, start_of}
use Rattle.cdcl_propagation.specs.State.{State, IsSettled}
use Rattle.cdcl_conflict_theory.specs.Trails.{Steps}
use Rattle.cdcl_conflict_theory.specs.Lemmas.{IsAsserting}

-- the place where the level above so many begins, or the end of the trail where there is no such level
abbrev pub begin_of : Path → ℕ → ℕ
begin_of path level = slice_index_or path.limits level (length path.literals)

abbrev pub steps_at : Path → Steps
steps_at path = record {
  literals = path.literals;
  reasons = path.reasons;
  fixed = begin_of path 0;
  start = begin_of path (length path.limits - 1);
}

-- a literal of a variable that has no value
pub record IsFree (path : Path) (literal : ℕ) : Type 0 where
  pub within : literal < 2 * path.variables
  pub not_true : Contains path.literals literal → ⊥
  pub not_false : Contains path.literals (opposite literal) → ⊥

-- each of the first so many variables has a value
abbrev pub IsComplete : Path → ℕ → Type 0
IsComplete path variables =
    (variable : ℕ) → variable < variables → Contains path.literals (2 * variable) ⊎ Contains path.literals (2 * variable + 1)

-- all of the trail was propagated, and each of the first so many variables has a value
pub record IsSolved (state : State) (variables : ℕ) : Type 0 where
  pub head : state.head ≡ length state.path.literals
  pub complete : IsComplete state.path variables

-- the values of the first so many variables, counted from 0, by the literals that are true
pub record AreValues (path : Path) (variables : ℕ) (values : List Bool) : Type 0 where
  pub size : length values ≡ variables
  pub is : (variable : ℕ) → variable < variables
      → (slice_index_or values variable false ≡ true) ↔ Contains path.literals (2 * variable)

-- a lemma can be added to the clauses, at a lower level
pub record CanAttach (state : State) (lemma : List ℕ) : Type 0 where
  pub settled : IsSettled state
  pub asserting : IsAsserting (steps_at state.path) lemma
  pub levels : 0 < length state.path.limits
  pub within : All (λ literal. literal < 2 * state.path.variables) lemma
  pub words : stored_words state.clauses + length lemma ≤ MOST_WORDS
  pub numbers : length state.clauses < 2 ^ 31 - 1

-- A level is that of a literal: the literal is false on it and on those above, and on none below.
pub record IsLevelOf (path : Path) (literal level : ℕ) : Type 0 where
  pub inside : level < length path.limits
  pub place : ℕ
  pub within : place < start_of path level
  pub at : literal ≡ opposite (slice_index path.literals place)
  pub lower : (below : ℕ) → below < level → start_of path below ≤ place

-- a literal is false at a level below the current one
pub record IsLower (path : Path) (literal : ℕ) : Type 0 where
  pub levels : 0 < length path.limits
  pub place : ℕ
  pub below : place < begin_of path (length path.limits - 1)
  pub at : literal ≡ opposite (slice_index path.literals place)
