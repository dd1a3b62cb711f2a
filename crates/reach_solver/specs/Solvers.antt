-- A formula, and clauses with selectors. A selector is a variable behind those of the formula; where it is true, its clause
-- holds.
use Rattle.std.specs.Prelude.{◌≡◌, ℕ, suc, ◌+◌, ℤ, pos, negsuc, List, [], ◌∷◌, ◌++◌, slice_get, Some, IsTrue}
use Rattle.std.specs.List.{All, Contains}
use Rattle.cdcl_incremental.specs.Questions.{AreTrue}
use Rattle.clauses.specs.Literals.{clauses_within}
use Rattle.clauses.specs.Models.{Assignment, IsModel}
use Rattle.reach_solver.specs.declared.solver.Told.{Told}
use Rattle.reach_solver.specs.declared.solver.Told.TheVariants as answers

-- clauses, each of which holds where its selector is true: the first behind so many variables, the next behind that
abbrev pub selected : ℕ → List (List ℤ) → List (List ℤ)
selected before [] = []
selected before (clause ∷ clauses) = (clause ++ negsuc before ∷ []) ∷ selected (suc before) clauses

-- how many variables a formula has, all clauses of the solver, and the clauses that have selectors
pub record Selecting : Type 0 where
  pub variables : ℕ
  pub clauses : List (List ℤ)
  pub chosen : List (List ℤ)

-- the clauses of the solver are those of a formula and those with selectors
pub record IsOver (solver : Selecting) (variables : ℕ) (formula : List (List ℤ)) : Type 0 where
  pub variables_are : solver.variables ≡ variables
  pub within : IsTrue (clauses_within variables formula)
  pub clauses_are : solver.clauses ≡ formula ++ selected solver.variables solver.chosen

-- more clauses have selectors, and the formula is the same
pub record Grows (old new : Selecting) : Type 0 where
  pub variables : new.variables ≡ old.variables
  pub more : List (List ℤ)
  pub chosen : new.chosen ≡ old.chosen ++ more
  pub over : (variables : ℕ) (formula : List (List ℤ)) → IsOver old variables formula → IsOver new variables formula

-- a literal is the selector of a clause, and literals are those of some of several clauses
pub record IsSelected (solver : Selecting) (clause : List ℤ) (literal : ℤ) : Type 0 where
  pub place : ℕ
  pub has : slice_get solver.chosen place ≡ Some clause
  pub is : literal ≡ pos (suc (solver.variables + place))

pub record IsMore (solver : Selecting) (clause : List ℤ) (literals more : List ℤ) : Type 0 where
  pub literal : ℤ
  pub is : IsSelected solver clause literal
  pub are : more ≡ literals ++ literal ∷ []

abbrev pub AreSelected : Selecting → List (List ℤ) → List ℤ → Type 0
AreSelected solver clauses literals =
    All (λ literal. (clause : List ℤ) × Contains clauses clause × IsSelected solver clause literal) literals

-- Where it is told that there is no model, no assignment is a model of the formula that meets all clauses and makes all
-- literals true.
abbrev pub Excludes : Selecting → List (List ℤ) → List ℤ → Told → Type 0
Excludes solver clauses literals (answers.Model values) = Unit {0}
Excludes solver clauses literals (answers.Refuted core) =
    (variables : ℕ) (formula : List (List ℤ)) → IsOver solver variables formula
    → (values : Assignment) → IsModel values formula → IsModel values clauses → AreTrue values literals → ⊥
Excludes solver clauses literals answers.Nothing = Unit {0}
