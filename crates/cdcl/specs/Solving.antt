-- What holds of a solver between two steps.
use Rattle.std.specs.Prelude.{◌≡◌, ℕ, ◌+◌, ◌≤◌, ℤ, List, [], length, map}
use Rattle.std.specs.Option.{option_map}
use Rattle.clauses.specs.Live.{Numbered}
use Rattle.clauses.specs.Literals.{clause_words}
use Rattle.clauses.specs.Logs.{LogEntry, lemmas, log_words, clauses_after, EachLemma}
use Rattle.clause_store.specs.Stored.{stored_words}
use Rattle.cdcl_trail.specs.Literals.{signed}
use Rattle.cdcl.specs.declared.solver.Solver.{Solver}
use Rattle.cdcl.specs.Evidence.{IsGoodLemma, DropsLive, IsHalfLive}

-- clauses with signed literals
abbrev pub signed_clauses : Numbered ℕ → Numbered ℤ
signed_clauses clauses = map (option_map (map signed)) clauses

-- The clauses are those that the formula and the log leave, and the log is good. Words and numbers are few.
pub record IsLogged (variables : ℕ) (formula : List (List ℤ)) (clauses : Numbered ℕ) (log : List LogEntry) : Type 0 where
  pub clauses_are : signed_clauses clauses ≡ clauses_after formula log
  pub good : EachLemma (IsGoodLemma variables formula) [] log
  pub drops_live : DropsLive formula [] log
  pub half_live : IsHalfLive formula log
  pub numbers : length clauses ≡ length formula + lemmas log
  pub words : stored_words clauses + length clauses ≤ clause_words formula + log_words log

-- A solver that can go on.
pub record IsReady (solver : Solver) : Type 0 where
  pub variables : solver.propagator.path.variables ≡ solver.formula.now.variables
  pub room : solver.analyzer ≡ solver.formula.now.variables
  pub logged : IsLogged solver.formula.now.variables solver.formula.now.clauses solver.propagator.clauses solver.log

-- what propagation and decisions leave
pub record KeepsLog (old new : Solver) : Type 0 where
  pub formula : new.formula ≡ old.formula
  pub analyzer : new.analyzer ≡ old.analyzer
  pub clauses : new.propagator.clauses ≡ old.propagator.clauses
  pub variables : new.propagator.path.variables ≡ old.propagator.path.variables
  pub log : new.log ≡ old.log
