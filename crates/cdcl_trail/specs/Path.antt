-- The trail of a solver: the literals that are true, in the order in which they came to be.
use Rattle.std.specs.Prelude.{◌≡◌, ℕ, ◌*◌, ◌<◌, ◌≤◌, List, [], ◌∷◌, ◌++◌, length, take, slice_index}
use Rattle.std.specs.List.{All, Contains}
use Rattle.cdcl_trail.specs.Literals.{variable, opposite}

-- how many variables there are; the true literals; by place, the number of the clause that made a literal true, 0 for
-- a decision; where each level but the lowest begins, which is the place of its decision
pub record Path : Type 0 where
  pub variables : ℕ
  pub literals : List ℕ
  pub reasons : List ℕ
  pub limits : List ℕ

-- a literal that is true for a reason
abbrev pub pushed : Path → ℕ → ℕ → Path
pushed path literal reason = record path { literals = path.literals ++ literal ∷ []; reasons = path.reasons ++ reason ∷ [] }

-- a literal that is decided, with which a level begins
abbrev pub decided : Path → ℕ → Path
decided path literal = record path {
  literals = path.literals ++ literal ∷ [];
  reasons = path.reasons ++ 0 ∷ [];
  limits = path.limits ++ length path.literals ∷ [];
}

-- where the level above so many begins
abbrev pub start_of : Path → ℕ → ℕ
start_of path level = slice_index path.limits level

-- the true literals of the levels up to one, the lowest of which is 0
abbrev pub literals_to : Path → ℕ → List ℕ
literals_to path level = take (start_of path level) path.literals

-- the trail up to a level
abbrev pub undone : Path → ℕ → Path
undone path level = record path {
  literals = literals_to path level;
  reasons = take (start_of path level) path.reasons;
  limits = take level path.limits;
}

-- The literals are of variables that there are, and of different ones, so that no literal stands twice and none
-- beside its negation. The levels begin one after another, within the trail.
pub record IsPath (path : Path) : Type 0 where
  pub within : All (λ literal. literal < 2 * path.variables) path.literals
  pub apart : (place other : ℕ) → place < length path.literals → other < length path.literals
      → variable (slice_index path.literals place) ≡ variable (slice_index path.literals other) → place ≡ other
  pub consistent : (literal : ℕ) → Contains path.literals literal → Contains path.literals (opposite literal) → ⊥
  pub few : length path.literals ≤ path.variables
  pub reasons : length path.reasons ≡ length path.literals
  pub rising : (level next : ℕ) → level < next → next < length path.limits → start_of path level < start_of path next
  pub begun : (level : ℕ) → level < length path.limits → start_of path level < length path.literals
