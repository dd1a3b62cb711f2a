-- What the text of a certificate shows, once it is passed.
use Rattle.std.specs.Prelude.{ℕ, ℤ, List, IsTrue}
use Rattle.clauses.specs.Literals.{clauses_within}
use Rattle.clauses.specs.Logs.{LogEntry, Refutes}
use Rattle.cert_theory.specs.declared.header.Asked.{Asked}
use Rattle.cert_theory.specs.declared.header.Form.{Form}
use Rattle.cert_theory.specs.declared.header.Form.TheVariants.{Windowed, Clausal}
use Rattle.cert_theory.specs.declared.header.Header.{Header}
use Rattle.cert_theory.specs.Headers.{HasHeader}
use Rattle.cert_theory.specs.Sections.{Queries, Query}
use Rattle.cert_theory.specs.Texts.{HasClauses}

-- some log refutes a formula
abbrev pub IsRefuted : Query → Type 0
IsRefuted query = (log : List LogEntry) × Refutes query.variables query.clauses log

-- both formulas of the visits and the window that a header gives are refuted
pub record IsClosed (queries : Queries) (header : Header) : Type 0 where
  pub base : IsRefuted (queries.base header.visits header.window)
  pub induction : IsRefuted (queries.induction header.visits header.window)

-- the three formulas of the visits that a header gives and of some clauses are refuted, whose literals name state bits
pub record IsInduced (queries : Queries) (header : Header) (clauses : List (List ℤ)) : Type 0 where
  pub within : IsTrue (clauses_within (queries.width header.visits) clauses)
  pub initial : IsRefuted (queries.initial header.visits clauses)
  pub step : IsRefuted (queries.step header.visits clauses)
  pub bad : IsRefuted (queries.bad header.visits clauses)

-- the formulas of a certificate of this form: those of its window, or those of the clauses behind its header
abbrev pub IsShownBy : Asked → Queries → List ℕ → Header → Form → Type 0
IsShownBy asked queries text header (Windowed version) = IsClosed queries header
IsShownBy asked queries text header Clausal =
    (clauses : List (List ℤ)) × HasClauses asked queries text header clauses × IsInduced queries header clauses

-- A text begins with a header of what was asked for, which claims something. Its numbers are in their ranges, visits from 0
-- to 16 and a window from 1 to 1,000, and the formulas of its form are refuted.
pub record IsShown (asked : Asked) (queries : Queries) (text : List ℕ) : Type 0 where
  pub header : Header
  pub has : HasHeader asked text header
  pub by : IsShownBy asked queries text header header.form
