-- What a step of the solver does: it learns one lemma.
use Rattle.std.specs.Prelude.{◌≡◌, ℕ, ◌+◌, ◌≤◌, ℤ, List, [], ◌∷◌, ◌++◌, Bool, true, false}
use Rattle.clauses.specs.declared.log.TheConstants.{MOST_LOG_WORDS}
use Rattle.clauses.specs.Literals.{clause_words}
use Rattle.clauses.specs.Logs.{log_words, Refutes}
use Rattle.clauses.specs.Logs.LogEntry.{Lemma}
use Rattle.cdcl.specs.declared.solver.Solver.{Solver}
use Rattle.cdcl.specs.Evidence.{IsTidy}
use Rattle.cdcl.specs.Solving.{IsReady}

-- the log has one lemma more, and the solver can go on
pub record IsLearning (old new : Solver) : Type 0 where
  pub formula : new.formula ≡ old.formula
  pub ready : IsReady new
  pub literals : List ℤ
  pub hints : List ℕ
  pub log : new.log ≡ old.log ++ Lemma literals hints ∷ []

-- the log has the empty lemma more, and refutes the formula
pub record IsEnding (old new : Solver) : Type 0 where
  pub formula : new.formula ≡ old.formula
  pub refutes : Refutes new.formula.now.variables new.formula.now.clauses new.log
  pub tidy : IsTidy new.formula.now.clauses new.log
  pub words : clause_words new.formula.now.clauses + log_words new.log ≤ MOST_LOG_WORDS
  pub hints : List ℕ
  pub log : new.log ≡ old.log ++ Lemma [] hints ∷ []

-- what a step did, by whether it ends the search
abbrev pub IsStep : Solver → Bool → Solver → Type 0
IsStep old true new = IsEnding old new
IsStep old false new = IsLearning old new
