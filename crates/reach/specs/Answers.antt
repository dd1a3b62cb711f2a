-- What each answer says, and by which evidence.
use Rattle.std.specs.Prelude.{◌≡◌, ℕ, suc, ◌+◌, ◌≤◌, ℤ, List, length}
use Rattle.cdcl.specs.Answers.{IsFull, IsSpent}
use Rattle.cdcl.specs.Evidence.{IsTidy}
use Rattle.gates_theory.specs.Sizes.{IsTooLarge}
use Rattle.clauses.specs.Literals.{clause_words}
use Rattle.clauses.specs.Logs.{LogEntry, Refutes, lemmas, log_words}
use Rattle.clauses.specs.declared.cnf.Cnf.{Cnf}
use Rattle.clauses.specs.declared.log.TheConstants.{MOST_LOG_WORDS}
use Rattle.joint.specs.Joined.{Joined}
use Rattle.joint_theory.specs.Paths.{IsOpenInitial}
use Rattle.joint_theory.specs.Sets.{AreFrames, IsInductive}
use Rattle.reach.specs.Formulas.{clauses_of, variables_of, AreWithin, IsFormulaOf}
use Rattle.reach.specs.Plain.{IsPlain}
use Rattle.reach.specs.declared.answer.Frames.{Frames}
use Rattle.reach.specs.declared.answer.Reached.{Reached}
use Rattle.reach.specs.declared.answer.Reached.TheVariants as answers
use Rattle.reach_frames.specs.declared.stop.ReachQuery.{ReachQuery}
use Rattle.reach_frames.specs.declared.stop.ReachQuery.TheVariants as queries

-- a log of the solver refutes the formula of a query, which is not too large
pub record IsRefuted (joined : Joined) (steps : ℕ) (query : ReachQuery) (log : List LogEntry) : Type 0 where
  pub fits : IsTooLarge (variables_of joined query) (clauses_of joined query) → ⊥
  pub refutes : Refutes (variables_of joined query) (clauses_of joined query) log
  pub words : clause_words (clauses_of joined query) + log_words log ≤ MOST_LOG_WORDS
  pub few : lemmas log ≤ steps
  pub tidy : IsTidy (clauses_of joined query) log

-- clauses are inductive, as three logs show: there is no initial state that misses one, no step out of them, and no bad
-- state that meets them
pub record AreInductive (joined : Joined) (steps : ℕ) (clauses : List (List ℤ)) (first second third : List LogEntry) : Type 0 where
  pub inductive : IsInductive joined.design joined.automaton joined.visits clauses
  pub within : AreWithin joined clauses
  pub initial : IsRefuted joined steps (queries.Initial clauses) first
  pub step : IsRefuted joined steps (queries.Step clauses) second
  pub bad : IsRefuted joined steps (queries.Bad clauses) third

-- so many frames keep bad states out, and none is the same as the next
pub record AreOpen (joined : Joined) (count : ℕ) (found : Frames) : Type 0 where
  pub are : AreFrames joined.design joined.automaton joined.visits found.frames found.stuck
  pub many : length found.frames ≡ count

-- the solver's steps are spent on the formula of a query that may come up
pub record AreSpent (joined : Joined) (steps : ℕ) (query : ReachQuery) (log : List LogEntry) : Type 0 where
  pub plain : IsPlain joined query
  pub formula : Cnf
  pub is : IsFormulaOf joined query formula
  pub spent : IsSpent formula steps log

-- its log is full
pub record IsLogFull (joined : Joined) (steps : ℕ) (query : ReachQuery) (log : List LogEntry) : Type 0 where
  pub plain : IsPlain joined query
  pub formula : Cnf
  pub is : IsFormulaOf joined query formula
  pub full : IsFull formula steps log

-- the formula of a query that may come up is too large
pub record IsLarge (joined : Joined) (query : ReachQuery) : Type 0 where
  pub plain : IsPlain joined query
  pub large : IsTooLarge (variables_of joined query) (clauses_of joined query)

-- an answer with its evidence
abbrev pub IsReached : Joined → ℕ → ℕ → Reached → Type 0
IsReached joined frames steps (answers.Inductive clauses first second third) =
    AreInductive joined steps clauses first second third
IsReached joined frames steps (answers.Path path) =
    IsOpenInitial joined.design joined.automaton joined.visits (suc frames) path
IsReached joined frames steps (answers.Open found) = AreOpen joined frames found
IsReached joined frames steps (answers.Spent query log) = AreSpent joined steps query log
IsReached joined frames steps (answers.LogFull query log) = IsLogFull joined steps query log
IsReached joined frames steps (answers.Large query) = IsLarge joined query
