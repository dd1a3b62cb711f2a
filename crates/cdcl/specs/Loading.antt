-- The clauses of a formula, as the solver takes them.
use Rattle.std.specs.Prelude.{◌≡◌, ℕ, ◌+◌, ◌-◌, ◌*◌, ◌^◌, ◌<◌, ◌≤◌, List, [], ◌∷◌}
use Rattle.std.specs.Prelude.{◌++◌, length, map, take, slice_index_or, Bool, true, false, Option, Some, None}
use Rattle.std.specs.List.{All, Contains}
use Rattle.clause_store.specs.declared.region.TheConstants.{MOST_WORDS}
use Rattle.clauses.specs.declared.cnf.Cnf.{Cnf}
use Rattle.clauses.specs.Live.{all_live}
use Rattle.clauses.specs.Literals.{clause_words}
use Rattle.clause_store.specs.Stored.{stored_words}
use Rattle.cdcl_trail.specs.Literals.{opposite, signed}
use Rattle.cdcl_propagation.specs.State.{State}
use Rattle.cdcl.specs.Solving.{signed_clauses}

-- no clause, and no literal is true
abbrev pub nothing_yet : ℕ → State
nothing_yet variables = record {
  clauses = [];
  path = record { variables = variables; literals = []; reasons = []; limits = [] };
  head = 0;
}

-- The first so many clauses of a formula are there. Nothing was propagated or decided.
pub record IsLoading (cnf : Cnf) (count : ℕ) (state : State) : Type 0 where
  pub clauses_are : signed_clauses state.clauses ≡ all_live (take count cnf.clauses)
  pub numbers : length state.clauses ≡ count
  pub words : stored_words state.clauses + count ≡ clause_words (take count cnf.clauses)
  pub variables : state.path.variables ≡ cnf.variables
  pub limits : state.path.limits ≡ []
  pub head : state.head ≡ 0

-- each literal of a clause is false
abbrev pub IsFalseOn : List ℕ → List ℕ → Type 0
IsFalseOn trail clause = All (λ literal. Contains trail (opposite literal)) clause

-- the clause at a place is false by the clauses before it
pub record IsFalseAt (cnf : Cnf) (state : State) (place : ℕ) : Type 0 where
  pub within : place < length cnf.clauses
  pub clause : List ℕ
  pub is : map signed clause ≡ slice_index_or cnf.clauses place []
  pub false_ : IsFalseOn state.path.literals clause

-- all clauses are there, or those in front of one that is false
abbrev pub IsLoaded : Cnf → State → Option ℕ → Type 0
IsLoaded cnf state None = IsLoading cnf (length cnf.clauses) state
IsLoaded cnf state (Some place) = IsLoading cnf place state × IsFalseAt cnf state place

-- a clause can be added, where nothing was propagated or decided
pub record CanAdd (state : State) (clause : List ℕ) : Type 0 where
  pub limits : state.path.limits ≡ []
  pub head : state.head ≡ 0
  pub within : All (λ literal. literal < 2 * state.path.variables) clause
  pub words : stored_words state.clauses + length clause ≤ MOST_WORDS
  pub numbers : length state.clauses < 2 ^ 31 - 1

-- a clause was added
pub record IsAdded (old : State) (clause : List ℕ) (new : State) : Type 0 where
  pub clauses : new.clauses ≡ old.clauses ++ Some clause ∷ []
  pub variables : new.path.variables ≡ old.path.variables
  pub limits : new.path.limits ≡ []
  pub head : new.head ≡ 0

-- a clause was added, unless it is false
abbrev pub AddsUnlessFalse : State → List ℕ → Bool → State → Type 0
AddsUnlessFalse old clause true new = IsAdded old clause new
AddsUnlessFalse old clause false new = (new ≡ old) × IsFalseOn old.path.literals clause
