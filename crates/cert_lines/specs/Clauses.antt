-- What is read of the clauses of a certificate, line by line.
use Rattle.std.specs.Prelude.{◌≡◌, ℕ, ℤ, List, [], ◌∷◌, ◌++◌}
use Rattle.cert_theory.specs.declared.header.Asked.{Asked}
use Rattle.cert_theory.specs.declared.header.Header.{Header}
use Rattle.cert_theory.specs.declared.header.Section.TheVariants.{Initial}
use Rattle.cert_theory.specs.Lines.{IsClauseLine, initial_line}
use Rattle.cert_theory.specs.Phases.{IsClauseRefused, NamesBits}
use Rattle.cert_theory.specs.Phases.Phase.{InClauses, InSection}
use Rattle.cert_theory.specs.Sections.{Queries}
use Rattle.cert_theory.specs.Texts.{HasClauses}
use Rattle.cert_lines.specs.declared.entries.LineStep.{LineStep}
use Rattle.cert_lines.specs.declared.entries.LineStep.TheVariants as steps
use Rattle.cert_lines.specs.declared.reading.Reading.{Reading}
use Rattle.cert_lines.specs.declared.reading.Refusal.{Refusal}
use Rattle.cert_lines.specs.Readings.{IsAt, RefusesAs}

-- what becomes of a line behind clauses, where a state has so many bits
abbrev pub BecomesClause : ℕ → List (List ℤ) → List ℕ → LineStep → List (List ℤ) → Type 0
BecomesClause width old line steps.Taken new =
    (clause : List ℤ) × IsClauseLine line clause × NamesBits width clause × (new ≡ old ++ clause ∷ [])
BecomesClause width old line steps.End new = (line ≡ initial_line) × (new ≡ old)
BecomesClause width old line (steps.Refused reason) new = IsClauseRefused width line reason

-- clauses are read and the word behind them, whatever text it is that they are a part of, where a state has so many bits
abbrev pub AreClauses : ℕ → Reading → List (List ℤ) → Reading → Type 0
AreClauses width old clauses new =
    (asked : Asked) (queries : Queries) (text : List ℕ) (header : Header) → queries.width header.visits ≡ width
    → IsAt asked queries text (InClauses header []) old
    → IsAt asked queries text (InSection header clauses Initial []) new

-- a line among them is refused
abbrev pub IsRefusedAmong : ℕ → Reading → Refusal → Type 0
IsRefusedAmong width old refusal =
    (asked : Asked) (queries : Queries) (text : List ℕ) (header : Header) → queries.width header.visits ≡ width
    → IsAt asked queries text (InClauses header []) old → RefusesAs asked queries text refusal

-- so the text has no clauses
abbrev pub HasNoClauses : ℕ → Reading → Type 0
HasNoClauses width old =
    (asked : Asked) (queries : Queries) (text : List ℕ) (header other : Header) (clauses : List (List ℤ))
    → queries.width header.visits ≡ width → IsAt asked queries text (InClauses header []) old
    → HasClauses asked queries text other clauses → ⊥
