-- What contracts see of a checker of logs, and what it answers.
use Rattle.std.specs.Prelude.{◌≡◌, ℕ, suc, ◌-◌, ◌<◌, ◌≤◌, ℤ, neg_ℤ, List, [], ◌∷◌, ◌++◌, length, sum_by, count_by, Option, Some, None, is_some, IsSome, IsTrue, slice_index_or, slice_set}
use Rattle.clauses.specs.declared.cnf.Cnf.{Cnf}
use Rattle.clauses.specs.Literals.{clause_within}
use Rattle.clauses.specs.Live.{Numbered, all_live, clause_of}
use Rattle.clauses.specs.Passing.{Passes}
use Rattle.clauses.specs.Logs.{LogEntry}
use Rattle.clauses.specs.Logs.LogEntry.{Lemma, Forget}
use Rattle.clause_log.specs.declared.step.Step.{Step}
use Rattle.clause_log.specs.declared.step.Step.TheVariants as step

-- a formula, how many lemmas may be live at once, and the lemmas that were taken, in order; None stands for one that
-- was dropped
pub record Checking : Type 0 where
  pub variables : ℕ
  pub formula : List (List ℤ)
  pub limit : ℕ
  pub lemmas : Numbered ℤ

-- no lemma was taken
abbrev pub begun : Cnf → ℕ → Checking
begun cnf limit = record { variables = cnf.variables; formula = cnf.clauses; limit = limit; lemmas = [] }

-- how many lemmas are live
abbrev pub held : Checking → ℕ
held state = count_by (λ lemma. is_some lemma) state.lemmas

-- the literals of the lemmas that are live
abbrev pub lemma_literals : Option (List ℤ) → ℕ
lemma_literals None = 0
lemma_literals (Some literals) = length literals

abbrev pub live_literals : Numbered ℤ → ℕ
live_literals lemmas = sum_by lemma_literals lemmas

-- a lemma passes: its literals are of the formula's variables, and it follows by unit propagation, with its hints, from
-- the clauses that are live
pub record PassesNow (state : Checking) (literals : List ℤ) (hints : List ℕ) : Type 0 where
  pub within : IsTrue (clause_within state.variables literals)
  pub refuted : Passes neg_ℤ (clause_of (all_live state.formula ++ state.lemmas)) literals hints

-- a lemma was taken
abbrev pub with_lemma : Checking → List ℤ → Checking
with_lemma state literals = record state { lemmas = state.lemmas ++ Some literals ∷ [] }

-- which of the lemmas a number behind those of the formula names, counted from 0
abbrev pub lemma_place : Checking → ℕ → ℕ
lemma_place state number = number - suc (length state.formula)

-- a number names a live lemma
abbrev pub IsLiveLemma : Checking → ℕ → Type 0
IsLiveLemma state number = (length state.formula < number) × IsSome (slice_index_or state.lemmas (lemma_place state number) None)

-- the lemma of a number was dropped
abbrev pub without_lemma : Checking → ℕ → Checking
without_lemma state number = record state { lemmas = slice_set state.lemmas (lemma_place state number) None }

-- the answer to an entry, with the state before and after
abbrev pub Answers : Checking → LogEntry → Step → Checking → Type 0
Answers old (Lemma literals hints) step.Passes new = PassesNow old literals hints × (held old < old.limit) × (new ≡ with_lemma old literals)
Answers old (Lemma literals hints) step.Fails new = (PassesNow old literals hints → ⊥) × (new ≡ old)
Answers old (Lemma literals hints) step.TooManyLive new = PassesNow old literals hints × (old.limit ≤ held old) × (new ≡ old)
Answers old (Lemma literals hints) step.BadDrop new = ⊥
Answers old (Forget number) step.Passes new = IsLiveLemma old number × (new ≡ without_lemma old number)
Answers old (Forget number) step.Fails new = ⊥
Answers old (Forget number) step.TooManyLive new = ⊥
Answers old (Forget number) step.BadDrop new = (IsLiveLemma old number → ⊥) × (new ≡ old)
