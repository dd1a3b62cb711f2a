-- Which certificates show what they are asked for, and how many lemmas their logs hold.
use Rattle.std.specs.Prelude.{◌≡◌, ◌+◌, ◌-◌, ◌≤◌, ℕ, List, [], ◌∷◌, ◌++◌, length, take, false, IsTrue}
use Rattle.std.specs.List.{All}
use Rattle.clauses.specs.Literals.{clause_words, clauses_within}
use Rattle.clauses.specs.Logs.{LogEntry, Refutes, is_empty_lemma, log_words}
use Rattle.clauses.specs.Logs.LogEntry.{Lemma, Forget}
use Rattle.clauses.specs.declared.flat.TheConstants.{MOST_VARIABLES}
use Rattle.clauses.specs.declared.log.TheConstants.{MOST_LOG_WORDS}
use Rattle.cert_theory.specs.Headers.{IsAsked, MayBe}
use Rattle.cert_theory.specs.Sections.{NamesLive, Queries, Query, live_lemmas}
use Rattle.cert_theory.specs.declared.certificate.Certificate.{Certificate}
use Rattle.cert_theory.specs.declared.certificate.InductiveCert.{InductiveCert}
use Rattle.cert_theory.specs.declared.header.Asked.{Asked}
use Rattle.cert_theory.specs.declared.header.Field.TheVariants.{Assertion, Visits, Window}

-- what holds of each drop of a log and the entries before it; `before` are the entries in front of the log
abbrev pub EachDrop : (List LogEntry → ℕ → Type 0) → List LogEntry → List LogEntry → Type 0
EachDrop P before [] = Unit {0}
EachDrop P before (Lemma literals hints ∷ log) = EachDrop P (before ++ Lemma literals hints ∷ []) log
EachDrop P before (Forget number ∷ log) = P before number × EachDrop P (before ++ Forget number ∷ []) log

-- each drop of a log names a lemma that is live there
abbrev pub DropsLive : Query → List LogEntry → Type 0
DropsLive query log = EachDrop (NamesLive query) [] log

-- A log shows that a formula has no model: it refutes the formula, drops only lemmas that are live, and ends with the
-- empty lemma. Formula and log are within the limits of a solver.
pub record IsRefuted (query : Query) (log : List LogEntry) : Type 0 where
  pub variables : query.variables ≤ MOST_VARIABLES
  pub words : clause_words query.clauses + log_words log ≤ MOST_LOG_WORDS
  pub refutes : Refutes query.variables query.clauses log
  pub drops_live : DropsLive query log
  pub empty_last : All (λ entry. is_empty_lemma entry ≡ false) (take (length log - 1) log)

-- a certificate is of the directive that is asked for, and its logs refute the two formulas
pub record IsEvidence (asked : Asked) (queries : Queries) (certificate : Certificate) : Type 0 where
  pub is_asked : IsAsked asked certificate.assertion
  pub number : MayBe Assertion certificate.assertion
  pub visits : MayBe Visits certificate.visits
  pub window : MayBe Window certificate.window
  pub base : IsRefuted (queries.base certificate.visits certificate.window) certificate.base
  pub induction : IsRefuted (queries.induction certificate.visits certificate.window) certificate.induction

-- a certificate of clauses is of the directive that is asked for, its clauses name state bits, and its logs refute the
-- three formulas; a state has no more bits than a formula may have variables
pub record IsInductiveEvidence (asked : Asked) (queries : Queries) (certificate : InductiveCert) : Type 0 where
  pub is_asked : IsAsked asked certificate.assertion
  pub number : MayBe Assertion certificate.assertion
  pub visits : MayBe Visits certificate.visits
  pub bits : queries.width certificate.visits ≤ MOST_VARIABLES
  pub within : IsTrue (clauses_within (queries.width certificate.visits) certificate.clauses)
  pub initial : IsRefuted (queries.initial certificate.visits certificate.clauses) certificate.initial
  pub step : IsRefuted (queries.step certificate.visits certificate.clauses) certificate.step
  pub bad : IsRefuted (queries.bad certificate.visits certificate.clauses) certificate.bad

-- a number is the greatest number of lemmas of a log that are live at once
pub record IsMostLive (query : Query) (log : List LogEntry) (most : ℕ) : Type 0 where
  pub none_more : (count : ℕ) → live_lemmas query (take count log) ≤ most
  pub reached : (count : ℕ) × (live_lemmas query (take count log) ≡ most)
