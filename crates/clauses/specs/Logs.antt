-- Clause logs: lemmas and drops, and what a log shows of a formula.
use Rattle.std.specs.Prelude.{◌≡◌, ℕ, suc, ◌+◌, ℤ, neg_ℤ, Bool, true, false, ◌&&◌, nat_lt, nat_le, List, [], ◌∷◌, ◌++◌, length, sum_by, count_by, IsTrue, Some}
use Rattle.std.specs.List.{list_all, All}
use Rattle.clauses.specs.declared.flat.TheConstants.{MOST_VARIABLES}
use Rattle.clauses.specs.Literals.{clause_within}
use Rattle.clauses.specs.Live.{Numbered, clause_of, all_live, without}
use Rattle.clauses.specs.Passing.{Passes}

-- an entry of a log: a lemma, which is a clause with the numbers of the clauses that it follows from, or the
-- drop of an earlier lemma, by its number
pub data LogEntry : Type 0 where
  Lemma : List ℤ → List ℕ → LogEntry
  Forget : ℕ → LogEntry

-- a number of a clause
abbrev pub is_number : ℕ → Bool
is_number number = nat_lt 0 number && nat_le number MOST_VARIABLES

-- the literals and the numbers of an entry are some
abbrev pub is_entry : LogEntry → Bool
is_entry (Lemma literals hints) = clause_within MOST_VARIABLES literals && list_all is_number hints
is_entry (Forget number) = is_number number

-- the words of an entry: the literals, the hints and two; a drop has none
abbrev pub entry_words : LogEntry → ℕ
entry_words (Lemma literals hints) = length literals + length hints + 2
entry_words (Forget number) = 0

abbrev pub log_words : List LogEntry → ℕ
log_words log = sum_by entry_words log

abbrev pub is_lemma : LogEntry → Bool
is_lemma (Lemma literals hints) = true
is_lemma (Forget number) = false

-- how many lemmas a log has
abbrev pub lemmas : List LogEntry → ℕ
lemmas log = count_by is_lemma log

-- the empty lemma
abbrev pub is_empty_lemma : LogEntry → Bool
is_empty_lemma (Lemma [] hints) = true
is_empty_lemma (Lemma (literal ∷ literals) hints) = false
is_empty_lemma (Forget number) = false

-- the clauses after an entry: a lemma gets the next number; a drop takes a lemma out, but no clause of the formula,
-- whose clauses are the first so many
abbrev pub after : ℕ → Numbered ℤ → LogEntry → Numbered ℤ
after size clauses (Lemma literals hints) = clauses ++ Some literals ∷ []
after size clauses (Forget number) = without size number clauses

-- the clauses after the entries of a log
abbrev pub after_all : ℕ → Numbered ℤ → List LogEntry → Numbered ℤ
after_all size clauses [] = clauses
after_all size clauses (entry ∷ log) = after_all size (after size clauses entry) log

-- the clauses of a formula and the lemmas of a log, by number
abbrev pub clauses_after : List (List ℤ) → List LogEntry → Numbered ℤ
clauses_after formula log = after_all (length formula) (all_live formula) log

-- A lemma passes after the entries before it: none of them is the empty lemma, its literals are of the formula's
-- variables, and it follows by unit propagation, with its hints, from the clauses that are live.
pub record LemmaPasses (variables : ℕ) (formula : List (List ℤ)) (before : List LogEntry) (literals : List ℤ) (hints : List ℕ) : Type 0 where
  pub none_empty : All (λ entry. is_empty_lemma entry ≡ false) before
  pub within : IsTrue (clause_within variables literals)
  pub refuted : Passes neg_ℤ (clause_of (clauses_after formula before)) literals hints

-- what holds of each lemma of a log and the entries before it; `before` are the entries in front of the log
abbrev pub EachLemma : (List LogEntry → List ℤ → List ℕ → Type 0) → List LogEntry → List LogEntry → Type 0
EachLemma P before [] = Unit {0}
EachLemma P before (Lemma literals hints ∷ log) = P before literals hints × EachLemma P (before ++ Lemma literals hints ∷ []) log
EachLemma P before (Forget number ∷ log) = EachLemma P (before ++ Forget number ∷ []) log

-- every lemma of a log passes
abbrev pub AllPass : ℕ → List (List ℤ) → List LogEntry → Type 0
AllPass variables formula log = EachLemma (LemmaPasses variables formula) [] log

-- A log refutes a formula: every lemma passes and the last is empty.
pub record Refutes (variables : ℕ) (formula : List (List ℤ)) (log : List LogEntry) : Type 0 where
  pub all_pass : AllPass variables formula log
  -- the entries before the last lemma, its hints, and the drops behind it
  pub before : List LogEntry
  pub hints : List ℕ
  pub behind : List LogEntry
  pub is : log ≡ before ++ Lemma [] hints ∷ behind
  pub last : All (λ entry. is_lemma entry ≡ false) behind

-- The first lemma of a log that does not pass is this one, counted from 1.
pub record FailsAt (variables : ℕ) (formula : List (List ℤ)) (log : List LogEntry) (lemma : ℕ) : Type 0 where
  pub before : List LogEntry
  pub literals : List ℤ
  pub hints : List ℕ
  pub behind : List LogEntry
  pub is : log ≡ before ++ Lemma literals hints ∷ behind
  pub passed : AllPass variables formula before
  pub fails : LemmaPasses variables formula before literals hints → ⊥
  pub number : lemma ≡ suc (lemmas before)

-- Every lemma of a log passes and none is empty.
pub record ShowsNothing (variables : ℕ) (formula : List (List ℤ)) (log : List LogEntry) : Type 0 where
  pub all_pass : AllPass variables formula log
  pub none_empty : All (λ entry. is_empty_lemma entry ≡ false) log
