-- The trail of a solver as the analysis of a conflict reads it. A literal is a number: that of the variable v,
-- counted from 0, is 2v, and its negation 2v + 1.
use Rattle.std.specs.Prelude.{◌≡◌, ◌≢◌, ◌⊎◌, ℕ, ◌/◌, ◌<◌, ◌≤◌, List, length, take, slice_index, Some}
use Rattle.std.specs.List.{All, Contains}
use Rattle.cdcl_trail.specs.Literals.{opposite}
use Rattle.clauses.specs.Live.{Numbered, clause_of}
use Rattle.clauses.specs.Passing.{IsOpen}

-- the true literals in the order in which they came to be; by place, the number of the clause that made a literal
-- true, 0 for a decision; how many literals are of level 0; where the current level begins, with its decision
pub record Steps : Type 0 where
  pub literals : List ℕ
  pub reasons : List ℕ
  pub fixed : ℕ
  pub start : ℕ

-- how many places there are
abbrev pub size_of : Steps → ℕ
size_of steps = length steps.literals

-- the literal at a place, and the number of its reason
abbrev pub literal_at : Steps → ℕ → ℕ
literal_at steps place = slice_index steps.literals place

abbrev pub reason_at : Steps → ℕ → ℕ
reason_at steps place = slice_index steps.reasons place

-- a literal is false by one of the first so many places
abbrev pub IsFalseBelow : Steps → ℕ → ℕ → Type 0
IsFalseBelow steps end literal = (place : ℕ) × (place < end) × (literal ≡ opposite (literal_at steps place))

-- The literal at a place follows from its reason: a live clause that has it, and whose other literals were false.
pub record HasReason (clauses : Numbered ℕ) (steps : Steps) (place : ℕ) : Type 0 where
  pub clause : List ℕ
  pub live : clause_of clauses (reason_at steps place) ≡ Some clause
  pub own : Contains clause (literal_at steps place)
  pub others : All (λ other. (other ≡ literal_at steps place) ⊎ IsFalseBelow steps place other) clause

-- What the analysis takes for granted of a trail: no variable stands at two places; each literal with a reason
-- follows from it; and literals of level 0, and those behind the decision of the current level, have reasons.
pub record IsTrail (clauses : Numbered ℕ) (steps : Steps) : Type 0 where
  pub apart : (place other : ℕ) → place < size_of steps → other < size_of steps
      → literal_at steps place / 2 ≡ literal_at steps other / 2 → place ≡ other
  pub reasons : length steps.reasons ≡ size_of steps
  pub order : steps.fixed ≤ steps.start
  pub within : steps.start ≤ size_of steps
  pub reasoned : (place : ℕ) → place < size_of steps → reason_at steps place ≢ 0 → HasReason clauses steps place
  pub fixed : (place : ℕ) → place < steps.fixed → reason_at steps place ≢ 0
  pub current : (place : ℕ) → steps.start < place → place < size_of steps → reason_at steps place ≢ 0

-- the places by variable are those of the literals
abbrev pub KnowsPlaces : Steps → List ℕ → Type 0
KnowsPlaces steps places = (place : ℕ) → place < size_of steps
    → (literal_at steps place / 2 < length places) × (slice_index places (literal_at steps place / 2) ≡ place)

-- A conflict: a live clause whose literals are all false.
pub record IsConflict (clauses : Numbered ℕ) (steps : Steps) (number : ℕ) : Type 0 where
  pub clause : List ℕ
  pub live : clause_of clauses number ≡ Some clause
  pub falses : All (IsFalseBelow steps (size_of steps)) clause

-- the literals below the current level
abbrev pub lower_literals : Steps → List ℕ
lower_literals steps = take steps.start steps.literals

-- Below the current level propagation had ended: each live clause has a true literal there, or two that are not false.
abbrev pub HasEnded : Numbered ℕ → Steps → Type 0
HasEnded clauses steps = (number : ℕ) (clause : List ℕ) → clause_of clauses number ≡ Some clause → IsOpen opposite (lower_literals steps) clause
