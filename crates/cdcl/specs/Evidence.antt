-- What the log of a solver shows of each of its lemmas and drops.
use Rattle.std.specs.Prelude.{◌≡◌, ◌≢◌, ℕ, ◌-◌, ◌*◌, ◌<◌, ◌≤◌, ℤ, neg_ℤ, List, []}
use Rattle.std.specs.Prelude.{◌∷◌, ◌++◌, length, take, drop, count_by, Option, Some, is_some, IsSome, false}
use Rattle.std.specs.List.{All, AllPairs, Contains}
use Rattle.clauses.specs.Live.{clause_of}
use Rattle.clauses.specs.Logs.{LogEntry, lemmas, is_empty_lemma, clauses_after, LemmaPasses}
use Rattle.clauses.specs.Logs.LogEntry.{Lemma, Forget}
use Rattle.clauses.specs.Passing.{AddsPropagation}

-- the clauses that are live behind some entries, by number
abbrev pub live_clause : List (List ℤ) → List LogEntry → ℕ → Option (List ℤ)
live_clause formula before = clause_of (clauses_after formula before)

-- A lemma is evidence of work: it passes by its hints, in the order of propagation; it is not empty, names no literal
-- twice and no hint twice; each of its literals stands in a clause that a hint names; and it adds a propagation.
pub record IsGoodLemma (variables : ℕ) (formula : List (List ℤ)) (before : List LogEntry) (literals : List ℤ) (hints : List ℕ) : Type 0 where
  pub passes : LemmaPasses variables formula before literals hints
  pub not_empty : literals ≢ []
  pub literals_once : AllPairs (λ literal other. literal ≢ other) literals
  pub hints_once : AllPairs (λ hint other. hint ≢ other) hints
  pub stands : (literal : ℤ) → Contains literals literal
      → (hint : ℕ) × (clause : List ℤ) × Contains hints hint × (live_clause formula before hint ≡ Some clause)
      × Contains clause literal
  pub adds : AddsPropagation neg_ℤ (live_clause formula before) literals

-- a number names a lemma that is live behind some entries
abbrev pub IsLiveLemma : List (List ℤ) → List LogEntry → ℕ → Type 0
IsLiveLemma formula before number = (length formula < number) × IsSome (live_clause formula before number)

-- each drop of a log names a lemma that is live there; `before` are the entries in front of the log
abbrev pub DropsLive : List (List ℤ) → List LogEntry → List LogEntry → Type 0
DropsLive formula before [] = Unit {0}
DropsLive formula before (Lemma literals hints ∷ log) = DropsLive formula (before ++ Lemma literals hints ∷ []) log
DropsLive formula before (Forget number ∷ log) =
    IsLiveLemma formula before number × DropsLive formula (before ++ Forget number ∷ []) log

-- how many lemmas of a log are live behind it
abbrev pub live_lemmas : List (List ℤ) → List LogEntry → ℕ
live_lemmas formula log = count_by (λ clause. is_some clause) (drop (length formula) (clauses_after formula log))

-- at every moment of a log at least half of the lemmas are live
abbrev pub IsHalfLive : List (List ℤ) → List LogEntry → Type 0
IsHalfLive formula log = (count : ℕ) → lemmas (take count log) ≤ 2 * live_lemmas formula (take count log)

-- an empty lemma comes only as the last entry
abbrev pub IsEmptyLast : List LogEntry → Type 0
IsEmptyLast log = All (λ entry. is_empty_lemma entry ≡ false) (take (length log - 1) log)

-- A log is tidy: what holds of every log that the solver gives.
pub record IsTidy (formula : List (List ℤ)) (log : List LogEntry) : Type 0 where
  pub drops_live : DropsLive formula [] log
  pub half_live : IsHalfLive formula log
  pub empty_last : IsEmptyLast log
