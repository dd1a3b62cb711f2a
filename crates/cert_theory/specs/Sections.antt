-- The sections of a certificate: logs, line by line, of which each refutes a formula.
use Rattle.std.specs.Prelude.{◌≡◌, ◌⊎◌, ℕ, ◌<◌, ◌≤◌, ℤ, Bool, true, false, List, length, drop, count_by, is_some, IsSome}
use Rattle.std.specs.List.{list_any}
use Rattle.clauses.specs.Live.{clause_of}
use Rattle.clauses.specs.Logs.{LogEntry, LemmaPasses, clauses_after, is_empty_lemma}
use Rattle.clauses.specs.Logs.LogEntry.{Lemma, Forget}
use Rattle.clause_text.specs.Lines.{entry_text, has_line}
use Rattle.cert_theory.specs.Lines.{end_line}
use Rattle.cert_theory.specs.declared.answer.CertReason.{CertReason}
use Rattle.cert_theory.specs.declared.answer.CertReason.TheVariants.{BadHeader, BadLine, WrongAssertion, LemmaFails, NoEmptyClause, EndsInside, TrailingBytes, TooManyLive, BadDrop, BadClause}
use Rattle.cert_theory.specs.declared.header.Form.{Form}
use Rattle.cert_theory.specs.declared.header.Form.TheVariants.{Windowed, Clausal}
use Rattle.cert_theory.specs.declared.header.Header.{Header}
use Rattle.cert_theory.specs.declared.header.Section.{Section}
use Rattle.cert_theory.specs.declared.header.Section.TheVariants.{Base, Induction, Initial, Step, Bad}
use Rattle.cert_theory.specs.declared.header.Version.TheVariants.{One, Two}

-- a formula that a section refutes: how many variables it has, and its clauses
pub record Query : Type 0 where
  pub variables : ℕ
  pub clauses : List (List ℤ)

-- what the certificates of a directive speak of
pub record Queries : Type 0 where
  -- the formulas for so many visits and a window
  pub base : ℕ → ℕ → Query
  pub induction : ℕ → ℕ → Query
  -- the formulas for so many visits and clauses
  pub initial : ℕ → List (List ℤ) → Query
  pub step : ℕ → List (List ℤ) → Query
  pub bad : ℕ → List (List ℤ) → Query
  -- how many bits a state has, where so many visits are counted
  pub width : ℕ → ℕ

-- the formula of each section, behind a header and clauses
abbrev pub query_at : Queries → Header → List (List ℤ) → Section → Query
query_at queries header clauses Base = queries.base header.visits header.window
query_at queries header clauses Induction = queries.induction header.visits header.window
query_at queries header clauses Initial = queries.initial header.visits clauses
query_at queries header clauses Step = queries.step header.visits clauses
query_at queries header clauses Bad = queries.bad header.visits clauses

-- whether drops have lines
abbrev pub drops_in : Form → Bool
drops_in (Windowed One) = false
drops_in (Windowed Two) = true
drops_in Clausal = true

-- a line is that of an entry
pub record IsEntryLine (form : Form) (line : List ℕ) (entry : LogEntry) : Type 0 where
  pub is : line ≡ entry_text entry
  pub has : has_line (drops_in form) entry ≡ true

-- the empty lemma stands among some entries
abbrev pub has_empty : List LogEntry → Bool
has_empty entries = list_any is_empty_lemma entries

-- how many lemmas of a log are live
abbrev pub live_lemmas : Query → List LogEntry → ℕ
live_lemmas query entries =
    count_by (λ clause. is_some clause) (drop (length query.clauses) (clauses_after query.clauses entries))

-- a number names a lemma of a log that is live
abbrev pub NamesLive : Query → List LogEntry → ℕ → Type 0
NamesLive query entries number =
    (length query.clauses < number) × IsSome (clause_of (clauses_after query.clauses entries) number)

-- a lemma passes behind the entries of a log
abbrev pub PassesBehind : Query → List LogEntry → List ℤ → List ℕ → Type 0
PassesBehind query entries literals hints = LemmaPasses query.variables query.clauses entries literals hints

-- An entry is taken behind those of a log: a lemma that passes and with which no more lemmas are live than may be, or the
-- drop of a live lemma before the empty one.
abbrev pub IsTaken : Header → Query → List LogEntry → LogEntry → Type 0
IsTaken header query entries (Lemma literals hints) =
    PassesBehind query entries literals hints × (live_lemmas query entries < header.live)
IsTaken header query entries (Forget number) = (has_empty entries ≡ false) × NamesLive query entries number

-- the line of an entry is wanted, or the word that ends the section
abbrev pub IsBadLine : Form → Section → List LogEntry → List ℕ → Type 0
IsBadLine form section entries line =
    ((line ≡ end_line section → ⊥) × ((entry : LogEntry) → IsEntryLine form line entry → ⊥))
    ⊎ ((has_empty entries ≡ true) × (entry : LogEntry) × IsEntryLine form line entry)

-- why a whole line is refused behind the entries of a section: the first reason that stands
abbrev pub IsSectionRefused : Header → Section → Query → List LogEntry → List ℕ → CertReason → Type 0
IsSectionRefused header section query entries line BadHeader = ⊥
IsSectionRefused header section query entries line BadLine = IsBadLine header.form section entries line
IsSectionRefused header section query entries line WrongAssertion = ⊥
IsSectionRefused header section query entries line LemmaFails =
    (has_empty entries ≡ false) × (literals : List ℤ) × (hints : List ℕ)
    × IsEntryLine header.form line (Lemma literals hints) × (PassesBehind query entries literals hints → ⊥)
IsSectionRefused header section query entries line NoEmptyClause =
    (line ≡ end_line section) × (has_empty entries ≡ false)
IsSectionRefused header section query entries line EndsInside = ⊥
IsSectionRefused header section query entries line TrailingBytes = ⊥
IsSectionRefused header section query entries line TooManyLive =
    (literals : List ℤ) × (hints : List ℕ) × IsEntryLine header.form line (Lemma literals hints)
    × PassesBehind query entries literals hints × (header.live ≤ live_lemmas query entries)
IsSectionRefused header section query entries line BadDrop =
    (has_empty entries ≡ false) × (number : ℕ)
    × IsEntryLine header.form line (Forget number) × (NamesLive query entries number → ⊥)
IsSectionRefused header section query entries line BadClause = ⊥
