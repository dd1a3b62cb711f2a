-- Questions about clauses: whether they have a model in which some literals are true.
use Rattle.std.specs.Prelude.{◌≡◌, ℕ, ℤ, Bool, List, length, IsTrue}
use Rattle.std.specs.List.{All, Contains}
use Rattle.clauses.specs.Models.{Assignment, is_true, IsModel}
use Rattle.cdcl_incremental.specs.declared.asked.Asked.{Asked}
use Rattle.cdcl_incremental.specs.declared.asked.Asked.TheVariants as answers
use Rattle.cdcl.specs.Answers.{values_of}

-- so many variables, and clauses over them
pub record Formula : Type 0 where
  pub variables : ℕ
  pub clauses : List (List ℤ)

-- all of some literals are true
abbrev pub AreTrue : Assignment → List ℤ → Type 0
AreTrue values literals = All (λ literal. IsTrue (is_true values literal)) literals

-- a value for each variable, under which each clause has a true literal, and the assumed literals are true
pub record IsModelWith (formula : Formula) (assumed : List ℤ) (values : List Bool) : Type 0 where
  pub size : length values ≡ formula.variables
  pub model : IsModel (values_of values) formula.clauses
  pub holds : AreTrue (values_of values) assumed

-- literals among the assumed ones that no model makes all true
pub record IsCore (formula : Formula) (assumed core : List ℤ) : Type 0 where
  pub among : All (Contains assumed) core
  pub refutes : (values : Assignment) → IsModel values formula.clauses → AreTrue values core → ⊥

-- an answer is right
abbrev pub IsAsked : Formula → List ℤ → Asked → Type 0
IsAsked formula assumed (answers.Model values) = IsModelWith formula assumed values
IsAsked formula assumed (answers.Refuted core) = IsCore formula assumed core
IsAsked formula assumed answers.Spent = Unit {0}
