-- Closed places: what the conflict and the reasons of explained places name is explained too, or kept for the lemma.
use Rattle.std.specs.Prelude.{◌≡◌, ◌⊎◌, ℕ, ◌<◌, ◌≤◌, List, [], ◌∷◌, ◌++◌, map, Some}
use Rattle.std.specs.List.{All, AllPairs, Contains}
use Rattle.clauses.specs.Live.{Numbered, clause_of}
use Rattle.cdcl_trail.specs.Literals.{opposite}
use Rattle.cdcl_conflict_theory.specs.Trails.{Steps, size_of, literal_at, reason_at}

-- the negation of the literal at a place
abbrev pub negation_at : Steps → ℕ → ℕ
negation_at steps place = opposite (literal_at steps place)

-- the lemma of kept places, and the hints of explained ones, which end with the conflict
abbrev pub lemma_of : Steps → List ℕ → List ℕ
lemma_of steps kept = map (λ place. negation_at steps place) kept

abbrev pub hints_of : Steps → List ℕ → ℕ → List ℕ
hints_of steps explained number = map (λ place. reason_at steps place) explained ++ number ∷ []

-- a literal is false by one of the first so many places, which is explained or kept
abbrev pub IsCovered : Steps → List ℕ → List ℕ → ℕ → ℕ → Type 0
IsCovered steps kept explained end literal =
    (place : ℕ) × (place < end) × (literal ≡ negation_at steps place) × (Contains kept place ⊎ Contains explained place)

-- A place is explained: its reason is live, has its literal, and its other literals are covered.
pub record IsStep (clauses : Numbered ℕ) (steps : Steps) (kept explained : List ℕ) (place : ℕ) : Type 0 where
  pub within : place < size_of steps
  pub clause : List ℕ
  pub live : clause_of clauses (reason_at steps place) ≡ Some clause
  pub own : Contains clause (literal_at steps place)
  pub others : All (λ other. (other ≡ literal_at steps place) ⊎ IsCovered steps kept explained place other) clause

-- a clause that is the conflict or the reason of an explained place has the negation of the literal at a place
abbrev pub IsNamed : Numbered ℕ → Steps → ℕ → List ℕ → ℕ → Type 0
IsNamed clauses steps number explained place =
    (hint : ℕ) × (clause : List ℕ) × (clause_of clauses hint ≡ Some clause) × Contains clause (negation_at steps place)
    × ((hint ≡ number) ⊎ ((other : ℕ) × Contains explained other × (hint ≡ reason_at steps other)))

-- The places are closed from a conflict: explained ones in rising order, and kept ones in falling order. What the
-- conflict and the reasons name is covered, and nothing else is kept.
pub record IsClosed (clauses : Numbered ℕ) (steps : Steps) (number : ℕ) (kept explained : List ℕ) : Type 0 where
  pub within : All (λ place. place < size_of steps) kept
  pub falling : AllPairs (λ place next. next < place) kept
  pub rising : AllPairs (λ place next. place < next) explained
  pub each : All (IsStep clauses steps kept explained) explained
  pub named : All (IsNamed clauses steps number explained) kept
  pub clause : List ℕ
  pub live : clause_of clauses number ≡ Some clause
  pub covered : All (IsCovered steps kept explained (size_of steps)) clause

-- One kept place is of the current level; the others are of lower levels, and none of them of level 0.
pub record IsKeeping (steps : Steps) (kept : List ℕ) (top : ℕ) : Type 0 where
  pub current : steps.start ≤ top
  pub member : Contains kept top
  pub others : (place : ℕ) → Contains kept place → (place ≡ top) ⊎ ((steps.fixed ≤ place) × (place < steps.start))
