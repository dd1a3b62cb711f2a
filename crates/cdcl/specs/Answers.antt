-- What each answer of the solver says, and by which evidence.
use Rattle.std.specs.Prelude.{◌≡◌, ℕ, ◌+◌, ◌-◌, ◌<◌, ◌≤◌, Bool, false, List, [], length, take, slice_index_or}
use Rattle.clauses.specs.declared.cnf.Cnf.{Cnf}
use Rattle.clauses.specs.declared.log.TheConstants.{MOST_LOG_WORDS}
use Rattle.clauses.specs.Literals.{clause_words}
use Rattle.clauses.specs.Models.{Assignment, IsModel}
use Rattle.clauses.specs.Logs.{LogEntry, lemmas, log_words, EachLemma, Refutes}
use Rattle.cdcl.specs.declared.answer.TheConstants.{FULL_LOG_WORDS}
use Rattle.cdcl.specs.declared.answer.Answer.{Answer}
use Rattle.cdcl.specs.declared.answer.Answer.TheVariants as answers
use Rattle.cdcl.specs.Evidence.{IsGoodLemma, IsTidy}

-- the values of variables, which are numbered from 1
abbrev pub values_of : List Bool → Assignment
values_of values variable = slice_index_or values (variable - 1) false

-- a value for each variable, under which each clause has a true literal
pub record IsModelOf (cnf : Cnf) (values : List Bool) : Type 0 where
  pub size : length values ≡ cnf.variables
  pub model : IsModel (values_of values) cnf.clauses

-- The log refutes the formula, by no more lemmas than there are steps; the words of both together are within what a
-- log may have.
pub record IsRefutation (cnf : Cnf) (steps : ℕ) (log : List LogEntry) : Type 0 where
  pub refutes : Refutes cnf.variables cnf.clauses log
  pub words : clause_words cnf.clauses + log_words log ≤ MOST_LOG_WORDS
  pub few : lemmas log ≤ steps
  pub tidy : IsTidy cnf.clauses log

-- every lemma of a log is evidence of work
abbrev pub AreGood : Cnf → List LogEntry → Type 0
AreGood cnf log = EachLemma (IsGoodLemma cnf.variables cnf.clauses) [] log

-- The steps are spent: the log has exactly so many lemmas, and has not passed its limit.
pub record IsSpent (cnf : Cnf) (steps : ℕ) (log : List LogEntry) : Type 0 where
  pub count : lemmas log ≡ steps
  pub words : log_words log ≤ FULL_LOG_WORDS
  pub good : AreGood cnf log
  pub tidy : IsTidy cnf.clauses log

-- The log is full: its words passed the limit with its last lemma, and not before.
pub record IsFull (cnf : Cnf) (steps : ℕ) (log : List LogEntry) : Type 0 where
  pub few : lemmas log ≤ steps
  pub words : FULL_LOG_WORDS < log_words log
  pub before : log_words (take (length log - 1) log) ≤ FULL_LOG_WORDS
  pub good : AreGood cnf log
  pub tidy : IsTidy cnf.clauses log

-- an answer with its evidence
abbrev pub IsAnswer : Cnf → ℕ → Answer → Type 0
IsAnswer cnf steps (answers.Model values) = IsModelOf cnf values
IsAnswer cnf steps (answers.Refuted log) = IsRefutation cnf steps log
IsAnswer cnf steps (answers.Spent log) = IsSpent cnf steps log
IsAnswer cnf steps (answers.LogFull log) = IsFull cnf steps log
