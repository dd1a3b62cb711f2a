-- What may follow at each place of a certificate, and what is refused there.
use Rattle.std.specs.Prelude.{◌≡◌, ◌⊎◌, ℕ, ℤ, List, [], ◌∷◌, ◌++◌, true, IsTrue}
use Rattle.clauses.specs.Literals.{clause_within}
use Rattle.clauses.specs.Logs.{LogEntry}
use Rattle.clauses.specs.declared.flat.TheConstants.{MOST_VARIABLES}
use Rattle.cert_theory.specs.declared.answer.CertReason.{CertReason}
use Rattle.cert_theory.specs.declared.answer.CertReason.TheVariants.{BadHeader, BadLine, WrongAssertion, LemmaFails, NoEmptyClause, EndsInside, TrailingBytes, TooManyLive, BadDrop, BadClause}
use Rattle.cert_theory.specs.declared.header.Asked.{Asked}
use Rattle.cert_theory.specs.declared.header.Field.TheVariants as field
use Rattle.cert_theory.specs.declared.header.Form.{Form}
use Rattle.cert_theory.specs.declared.header.Form.TheVariants.{Windowed, Clausal}
use Rattle.cert_theory.specs.declared.header.Header.{Header}
use Rattle.cert_theory.specs.declared.header.Section.{Section}
use Rattle.cert_theory.specs.declared.header.Section.TheVariants.{Base, Induction, Initial, Step, Bad}
use Rattle.cert_theory.specs.declared.header.Version.TheVariants.{One, Two}
use Rattle.cert_theory.specs.Headers.{IsAsked, Says}
use Rattle.cert_theory.specs.Lines.{IsClauseLine, end_line, form_line, initial_line, last_line}
use Rattle.cert_theory.specs.Sections.{Queries, IsEntryLine, IsSectionRefused, IsTaken, has_empty, query_at}

-- which line comes next, and what the lines before it say
pub data Phase : Type 0 where
  AtVersion : Phase
  AtAssertion : Form → Phase
  AtVisits : Form → Phase
  -- only where there is one: so many visits
  AtWindow : Form → ℕ → Phase
  -- only where it is said: so many visits, and a window
  AtLive : Form → ℕ → ℕ → Phase
  -- the last line of the header
  AtLast : Header → Phase
  -- behind some of the clauses
  InClauses : Header → List (List ℤ) → Phase
  -- behind the clauses, which only a certificate of clauses has, and behind entries of a section
  InSection : Header → List (List ℤ) → Section → List LogEntry → Phase
  -- behind the last line
  AtEnd : Phase

-- behind the window: the first version does not say how many lemmas are live
abbrev pub behind_window : Form → ℕ → ℕ → Phase
behind_window (Windowed One) visits window =
    AtLast (record { form = Windowed One; visits = visits; window = window; live = MOST_VARIABLES })
behind_window (Windowed Two) visits window = AtLive (Windowed Two) visits window
behind_window Clausal visits window = AtLive Clausal visits window

-- behind the visits: a certificate of clauses has no window
abbrev pub behind_visits : Form → ℕ → Phase
behind_visits (Windowed version) visits = AtWindow (Windowed version) visits
behind_visits Clausal visits = behind_window Clausal visits 1

-- behind the header
abbrev pub behind_form : Form → Header → Phase
behind_form (Windowed version) header = InSection header [] Base []
behind_form Clausal header = InClauses header []

abbrev pub behind_header : Header → Phase
behind_header header = behind_form header.form header

-- behind a section
abbrev pub behind_section : Header → List (List ℤ) → Section → Phase
behind_section header clauses Base = InSection header clauses Induction []
behind_section header clauses Induction = AtEnd
behind_section header clauses Initial = InSection header clauses Step []
behind_section header clauses Step = InSection header clauses Bad []
behind_section header clauses Bad = AtEnd

-- all literals of a clause name state bits, of which there are so many
abbrev pub NamesBits : ℕ → List ℤ → Type 0
NamesBits width clause = IsTrue (clause_within width clause)

-- a line may stand at a phase, and leads to the next
abbrev pub Follows : Asked → Queries → Phase → List ℕ → Phase → Type 0
Follows asked queries AtVersion line next = (form : Form) × (line ≡ form_line form) × (next ≡ AtAssertion form)
Follows asked queries (AtAssertion form) line next =
    (number : ℕ) × Says field.Assertion line number × IsAsked asked number × (next ≡ AtVisits form)
Follows asked queries (AtVisits form) line next =
    (visits : ℕ) × Says field.Visits line visits × (next ≡ behind_visits form visits)
Follows asked queries (AtWindow form visits) line next =
    (window : ℕ) × Says field.Window line window × (next ≡ behind_window form visits window)
Follows asked queries (AtLive form visits window) line next =
    (live : ℕ) × Says field.Live line live
    × (next ≡ AtLast (record { form = form; visits = visits; window = window; live = live }))
Follows asked queries (AtLast header) line next = (line ≡ last_line header.form) × (next ≡ behind_header header)
Follows asked queries (InClauses header clauses) line next =
    ((clause : List ℤ) × IsClauseLine line clause × NamesBits (queries.width header.visits) clause
    × (next ≡ InClauses header (clauses ++ clause ∷ [])))
    ⊎ ((line ≡ initial_line) × (next ≡ InSection header clauses Initial []))
Follows asked queries (InSection header clauses section entries) line next =
    ((entry : LogEntry) × IsEntryLine header.form line entry
    × IsTaken header (query_at queries header clauses section) entries entry
    × (next ≡ InSection header clauses section (entries ++ entry ∷ [])))
    ⊎ ((line ≡ end_line section) × (has_empty entries ≡ true) × (next ≡ behind_section header clauses section))
Follows asked queries AtEnd line next = ⊥

-- a line of the header that has not its shape
abbrev pub IsMisshapen : Phase → List ℕ → Type 0
IsMisshapen AtVersion line = (form : Form) → line ≡ form_line form → ⊥
IsMisshapen (AtAssertion form) line = (number : ℕ) → Says field.Assertion line number → ⊥
IsMisshapen (AtVisits form) line = (number : ℕ) → Says field.Visits line number → ⊥
IsMisshapen (AtWindow form visits) line = (number : ℕ) → Says field.Window line number → ⊥
IsMisshapen (AtLive form visits window) line = (number : ℕ) → Says field.Live line number → ⊥
IsMisshapen (AtLast header) line = line ≡ last_line header.form → ⊥
IsMisshapen (InClauses header clauses) line = ⊥
IsMisshapen (InSection header clauses section entries) line = ⊥
IsMisshapen AtEnd line = ⊥

-- a line that gives the number of a directive that is not asked for
abbrev pub IsOfAnother : Asked → Phase → List ℕ → Type 0
IsOfAnother asked AtVersion line = ⊥
IsOfAnother asked (AtAssertion form) line =
    (number : ℕ) × Says field.Assertion line number × (IsAsked asked number → ⊥)
IsOfAnother asked (AtVisits form) line = ⊥
IsOfAnother asked (AtWindow form visits) line = ⊥
IsOfAnother asked (AtLive form visits window) line = ⊥
IsOfAnother asked (AtLast header) line = ⊥
IsOfAnother asked (InClauses header clauses) line = ⊥
IsOfAnother asked (InSection header clauses section entries) line = ⊥
IsOfAnother asked AtEnd line = ⊥

-- why a line among the clauses is refused: it is neither a clause's nor the word behind them, or its clause has a literal
-- that names no state bit
abbrev pub IsClauseRefused : ℕ → List ℕ → CertReason → Type 0
IsClauseRefused width line BadHeader = ⊥
IsClauseRefused width line BadLine =
    (line ≡ initial_line → ⊥) × ((clause : List ℤ) → IsClauseLine line clause → ⊥)
IsClauseRefused width line WrongAssertion = ⊥
IsClauseRefused width line LemmaFails = ⊥
IsClauseRefused width line NoEmptyClause = ⊥
IsClauseRefused width line EndsInside = ⊥
IsClauseRefused width line TrailingBytes = ⊥
IsClauseRefused width line TooManyLive = ⊥
IsClauseRefused width line BadDrop = ⊥
IsClauseRefused width line BadClause =
    (clause : List ℤ) × IsClauseLine line clause × (NamesBits width clause → ⊥)

-- a line behind the header that is refused
abbrev pub IsRefusedInside : Queries → Phase → List ℕ → CertReason → Type 0
IsRefusedInside queries AtVersion line reason = ⊥
IsRefusedInside queries (AtAssertion form) line reason = ⊥
IsRefusedInside queries (AtVisits form) line reason = ⊥
IsRefusedInside queries (AtWindow form visits) line reason = ⊥
IsRefusedInside queries (AtLive form visits window) line reason = ⊥
IsRefusedInside queries (AtLast header) line reason = ⊥
IsRefusedInside queries (InClauses header clauses) line reason = IsClauseRefused (queries.width header.visits) line reason
IsRefusedInside queries (InSection header clauses section entries) line reason =
    IsSectionRefused header section (query_at queries header clauses section) entries line reason
IsRefusedInside queries AtEnd line reason = ⊥

-- why a whole line is refused at a phase: the first reason that stands
abbrev pub IsRefusedLine : Asked → Queries → Phase → List ℕ → CertReason → Type 0
IsRefusedLine asked queries phase line BadHeader = IsMisshapen phase line
IsRefusedLine asked queries phase line BadLine = IsRefusedInside queries phase line BadLine
IsRefusedLine asked queries phase line WrongAssertion = IsOfAnother asked phase line
IsRefusedLine asked queries phase line LemmaFails = IsRefusedInside queries phase line LemmaFails
IsRefusedLine asked queries phase line NoEmptyClause = IsRefusedInside queries phase line NoEmptyClause
IsRefusedLine asked queries phase line EndsInside = ⊥
IsRefusedLine asked queries phase line TrailingBytes = ⊥
IsRefusedLine asked queries phase line TooManyLive = IsRefusedInside queries phase line TooManyLive
IsRefusedLine asked queries phase line BadDrop = IsRefusedInside queries phase line BadDrop
IsRefusedLine asked queries phase line BadClause = IsRefusedInside queries phase line BadClause
