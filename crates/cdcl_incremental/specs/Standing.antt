-- What holds of a solver between questions, and what its steps leave.
use Rattle.std.specs.Prelude.{◌≡◌, ◌⊎◌, ℕ, ◌*◌, ◌<◌, ◌≤◌, ℤ, Bool, true, false, List, [], ◌∷◌, ◌++◌, map, slice_index_or, Some, IsTrue}
use Rattle.std.specs.List.{All, Contains}
use Rattle.clauses.specs.declared.flat.TheConstants.{MOST_VARIABLES}
use Rattle.clauses.specs.Live.{Numbered, clause_of}
use Rattle.clauses.specs.Models.{Assignment, is_true, meets, IsModel}
use Rattle.cdcl_trail.specs.Literals.{opposite, signed}
use Rattle.cdcl_propagation.specs.State.{State, IsConflict}
use Rattle.cdcl_incremental.specs.declared.incremental.Incremental.{Incremental}
use Rattle.cdcl_incremental.specs.declared.incremental.Found.{Found}
use Rattle.cdcl_incremental.specs.declared.incremental.Found.TheVariants as found
use Rattle.cdcl_incremental.specs.declared.storing.Stored.{Stored}
use Rattle.cdcl_incremental.specs.declared.storing.Stored.TheVariants as stored
use Rattle.cdcl_incremental.specs.Questions.{Formula}
use Rattle.cdcl.specs.Turns.{IsSolved, CanAttach}

-- a literal is true, and a clause has a true literal
abbrev pub Holds : Assignment → ℕ → Type 0
Holds values literal = IsTrue (is_true values (signed literal))

abbrev pub IsMet : Assignment → List ℕ → Type 0
IsMet values clause = IsTrue (meets values (map signed clause))

-- each live clause is met
abbrev pub AreMet : Assignment → Numbered ℕ → Type 0
AreMet values clauses = (number : ℕ) (clause : List ℕ) → clause_of clauses number ≡ Some clause → IsMet values clause

-- each live clause that is no lemma is met
abbrev pub AreKeptMet : Assignment → Numbered ℕ → List Bool → Type 0
AreKeptMet values clauses is_lemma =
    (number : ℕ) (clause : List ℕ) → clause_of clauses number ≡ Some clause → slice_index_or is_lemma number false ≡ false → IsMet values clause

-- The clauses stand for a formula: its models meet all of them, and where those are met that are no lemmas, an
-- assignment is a model of it. That holds unless it is known that there is no model, or clauses found no room.
pub record StandsFor (variables : ℕ) (formula : List (List ℤ)) (clauses : Numbered ℕ) (is_lemma : List Bool) (is_refuted is_full : Bool) : Type 0 where
  pub within : (number : ℕ) (clause : List ℕ) → clause_of clauses number ≡ Some clause → All (λ literal. literal < 2 * variables) clause
  pub follows : (values : Assignment) → IsModel values formula → AreMet values clauses
  pub suffices : is_refuted ≡ false → is_full ≡ false → (values : Assignment) → AreKeptMet values clauses is_lemma → IsModel values formula
  pub refutes : is_refuted ≡ true → (values : Assignment) → IsModel values formula → ⊥

-- the formula of a solver
abbrev pub formula_of : Incremental → Formula
formula_of solver = record { variables = solver.variables; clauses = solver.formula }

-- A solver that can be asked.
pub record IsGrown (solver : Incremental) : Type 0 where
  pub few : solver.variables ≤ solver.propagator.path.variables
  pub most : solver.propagator.path.variables ≤ MOST_VARIABLES
  pub room : solver.analyzer ≡ solver.propagator.path.variables
  pub stands : StandsFor solver.variables solver.formula solver.propagator.clauses solver.is_lemma.items solver.is_refuted solver.is_full

-- the formula is the same, and the solver can be asked again
pub record Continues (old new : Incremental) : Type 0 where
  pub formula : new.formula ≡ old.formula
  pub variables : new.variables ≡ old.variables
  pub grown : IsGrown new

-- all that is known but the trail is the same
pub record KeepsAll (old new : Incremental) : Type 0 where
  pub formula : new.formula ≡ old.formula
  pub variables : new.variables ≡ old.variables
  pub clauses : new.propagator.clauses ≡ old.propagator.clauses
  pub room : new.propagator.path.variables ≡ old.propagator.path.variables
  pub analyzer : new.analyzer ≡ old.analyzer
  pub is_lemma : new.is_lemma.items ≡ old.is_lemma.items
  pub is_refuted : new.is_refuted ≡ old.is_refuted
  pub is_full : new.is_full ≡ old.is_full

-- The lemma that was learned can be added. It is met where the clauses are.
pub record CanKeep (solver : Incremental) : Type 0 where
  pub attach : CanAttach solver.propagator solver.lemma.literals.items
  pub within : All (λ literal. literal < 2 * solver.variables) solver.lemma.literals.items
  pub met : (values : Assignment) → AreMet values solver.propagator.clauses → IsMet values solver.lemma.literals.items

-- one clause more
pub record IsAdded (old : Incremental) (clause : List ℤ) (new : Incremental) : Type 0 where
  pub formula : new.formula ≡ old.formula ++ clause ∷ []
  pub variables : new.variables ≡ old.variables
  pub grown : IsGrown new

-- what was found on the way to a model in which the assumed literals are true
abbrev pub IsFound : State → ℕ → List ℕ → Found → Type 0
IsFound state variables assumed (found.Conflict number) = IsConflict state.clauses state.path number
IsFound state variables assumed (found.Failed literal) = Contains assumed literal × Contains state.path.literals (opposite literal)
IsFound state variables assumed found.Done = IsSolved state variables

-- What is left of a clause where some literals are true: literals of it that are not false. Each other is false, or else
-- one that is true is left.
pub record IsRest (trail : List ℕ) (clause : List ℤ) (rest : List ℕ) : Type 0 where
  pub among : All (λ literal. Contains clause (signed literal)) rest
  pub not_false : All (λ literal. Contains trail (opposite literal) → ⊥) rest
  pub others : ((literal : ℕ) × Contains rest literal × Contains trail literal)
      ⊎ All (λ other. (literal : ℕ) × (signed literal ≡ other) × (Contains rest literal ⊎ Contains trail (opposite literal))) clause

-- A clause was stored: literals of it, such that no more assignments meet them where the clauses are met.
pub record IsStoredAs (old : Numbered ℕ) (clause : List ℤ) (rest : List ℕ) (new : Numbered ℕ) : Type 0 where
  pub clauses : new ≡ old ++ Some rest ∷ []
  pub among : All (λ literal. Contains clause (signed literal)) rest
  pub same : (values : Assignment) → AreMet values old → IsTrue (meets values clause) → IsMet values rest

-- what became of literals of which none is false: they were put among the clauses, there was none, or there was no room
abbrev pub IsPut : Numbered ℕ → List ℕ → Numbered ℕ → Stored → Type 0
IsPut old rest new stored.Clause = new ≡ old ++ Some rest ∷ []
IsPut old rest new stored.Refuted = (new ≡ old) × (rest ≡ [])
IsPut old rest new stored.Full = new ≡ old

-- what became of a clause: it was stored, no assignment meets it beside the others, or there was no room
abbrev pub IsStored : Numbered ℕ → List ℤ → Numbered ℕ → Stored → Type 0
IsStored old clause new stored.Clause = (rest : List ℕ) × IsStoredAs old clause rest new
IsStored old clause new stored.Refuted = (new ≡ old) × ((values : Assignment) → AreMet values old → IsTrue (meets values clause) → ⊥)
IsStored old clause new stored.Full = new ≡ old
