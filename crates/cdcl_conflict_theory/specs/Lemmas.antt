-- What the analysis of a conflict gives.
use Rattle.std.specs.Prelude.{◌≡◌, ◌≢◌, ◌⊎◌, ℕ, ◌<◌, ◌≤◌, List, [], ◌∷◌, map, Some}
use Rattle.std.specs.List.{All, AllPairs, Contains}
use Rattle.clauses.specs.Live.{Numbered, clause_of}
use Rattle.clauses.specs.Passing.{Passes, AddsPropagation}
use Rattle.cdcl_trail.specs.Literals.{opposite}
use Rattle.cdcl_conflict_theory.specs.Trails.{Steps, size_of, literal_at}

-- The literals of a lemma are false by places that fall: the first is of the current level, the others are of lower
-- levels, but none is of level 0.
pub record IsAsserting (steps : Steps) (literals : List ℕ) : Type 0 where
  pub first : ℕ
  pub others : List ℕ
  pub is : literals ≡ map (λ place. opposite (literal_at steps place)) (first ∷ others)
  pub current : steps.start ≤ first
  pub within : first < size_of steps
  pub lower : All (λ place. place < steps.start) others
  pub not_fixed : All (λ place. steps.fixed ≤ place) others
  pub falling : AllPairs (λ place next. next < place) others

-- A lemma with its hints is evidence: it passes by them in order, it names no literal twice and no hint twice, each of
-- its literals stands in a hinted clause, it asserts one literal and it adds a propagation.
pub record IsLearned (clauses : Numbered ℕ) (steps : Steps) (literals hints : List ℕ) : Type 0 where
  pub passes : Passes opposite (clause_of clauses) literals hints
  pub literals_once : AllPairs (λ literal other. literal ≢ other) literals
  pub hints_once : AllPairs (λ hint other. hint ≢ other) hints
  pub stands : (literal : ℕ) → Contains literals literal →
      (hint : ℕ) × (clause : List ℕ) × Contains hints hint × (clause_of clauses hint ≡ Some clause) × Contains clause literal
  pub asserting : IsAsserting steps literals
  pub adds : AddsPropagation opposite (clause_of clauses) literals

-- The lemma is empty and passes by its hints, of which none stands twice.
pub record IsRefuted (clauses : Numbered ℕ) (literals hints : List ℕ) : Type 0 where
  pub empty : literals ≡ []
  pub passes : Passes opposite (clause_of clauses) literals hints
  pub hints_once : AllPairs (λ hint other. hint ≢ other) hints

-- With some literals true, a clause has one literal left that is neither true nor false, and its others are false.
pub record IsUnit (true_literals clause : List ℕ) (literal : ℕ) : Type 0 where
  pub member : Contains clause literal
  pub not_true : Contains true_literals literal → ⊥
  pub not_false : Contains true_literals (opposite literal) → ⊥
  pub others : All (λ other. (other ≡ literal) ⊎ Contains true_literals (opposite other)) clause
