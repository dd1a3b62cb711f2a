-- What is checked of a section, line by line.
use Rattle.std.specs.Prelude.{◌≡◌, ℕ, ℤ, ◌+◌, ◌*◌, Bool, true, false, List, [], ◌∷◌, ◌++◌, length}
use Rattle.clause_log.specs.Checking.{Checking, live_literals}
use Rattle.clause_log.specs.declared.step.Step.{Step}
use Rattle.clause_log.specs.declared.step.Step.TheVariants.{Passes, Fails, TooManyLive, BadDrop}
use Rattle.clauses.specs.Live.{all_live}
use Rattle.clauses.specs.Logs.{LogEntry, clauses_after}
use Rattle.clauses.specs.declared.cnf.Cnf.{Cnf}
use Rattle.cert_theory.specs.declared.answer.CertReason.TheVariants as reasons
use Rattle.cert_theory.specs.declared.header.Asked.{Asked}
use Rattle.cert_theory.specs.declared.header.Header.{Header}
use Rattle.cert_theory.specs.declared.header.Section.{Section}
use Rattle.cert_theory.specs.Lines.{end_line}
use Rattle.cert_theory.specs.Phases.{behind_section}
use Rattle.cert_theory.specs.Phases.Phase.{InSection}
use Rattle.cert_theory.specs.Sections.{IsEntryLine, IsSectionRefused, IsTaken, Queries, Query, has_empty, query_at}
use Rattle.cert_lines.specs.declared.entries.LineStep.{LineStep}
use Rattle.cert_lines.specs.declared.entries.LineStep.TheVariants as steps
use Rattle.cert_lines.specs.declared.entries.SectionChecker.{SectionChecker}
use Rattle.cert_lines.specs.declared.reading.Reading.{Reading}
use Rattle.cert_lines.specs.declared.reading.Refusal.{Refusal}
use Rattle.cert_lines.specs.Readings.{IsAt, RefusesAs}

abbrev pub query_of : Cnf → Query
query_of formula = record { variables = formula.variables; clauses = formula.clauses }

-- what the checker of a formula's logs holds behind entries of a log
pub record HoldsLive (query : Query) (live : ℕ) (entries : List LogEntry) (state : Checking) : Type 0 where
  pub variables : state.variables ≡ query.variables
  pub formula : state.formula ≡ query.clauses
  pub limit : state.limit ≡ live
  pub clauses : all_live query.clauses ++ state.lemmas ≡ clauses_after query.clauses entries

pub record Holds (query : Query) (entries : List LogEntry) (section : SectionChecker) : Type 0 where
  pub state : HoldsLive query section.header.live entries section.checker
  pub ended : section.ended ≡ has_empty entries

-- how many bytes the lines had at the least
abbrev pub bytes_of : Checking → ℕ
bytes_of state = 2 * live_literals state.lemmas + length state.lemmas

abbrev pub taken_bytes : SectionChecker → ℕ
taken_bytes section = bytes_of section.checker

-- what becomes of a line behind entries
abbrev pub Becomes : SectionChecker → Query → List LogEntry → List ℕ → LineStep → SectionChecker → Type 0
Becomes old query entries line steps.Taken new =
    (entry : LogEntry) × IsEntryLine old.header.form line entry × IsTaken old.header query entries entry
    × Holds query (entries ++ entry ∷ []) new
Becomes old query entries line steps.End new = (line ≡ end_line old.section) × (has_empty entries ≡ true)
Becomes old query entries line (steps.Refused reason) new =
    IsSectionRefused old.header old.section query entries line reason

-- the word at the end of a section, and an entry by what the checker answers to it
abbrev pub at_end : Bool → LineStep
at_end true = steps.End
at_end false = steps.Refused reasons.NoEmptyClause

abbrev pub step_of : Step → LineStep
step_of Passes = steps.Taken
step_of Fails = steps.Refused reasons.LemmaFails
step_of TooManyLive = steps.Refused reasons.TooManyLive
step_of BadDrop = steps.Refused reasons.BadDrop

-- the lines of a section stand, whatever text it is that they are a part of and whatever clauses stand in front of them,
-- where the section has this formula
abbrev pub StandsBehind : Header → Section → Query → Reading → Reading → Type 0
StandsBehind header section query old new =
    (asked : Asked) (queries : Queries) (text : List ℕ) (clauses : List (List ℤ)) → query_at queries header clauses section ≡ query
    → IsAt asked queries text (InSection header clauses section []) old
    → IsAt asked queries text (behind_section header clauses section) new

-- one of them is refused
abbrev pub IsRefusedIn : Header → Section → Query → Reading → Refusal → Type 0
IsRefusedIn header section query old refusal =
    (asked : Asked) (queries : Queries) (text : List ℕ) (clauses : List (List ℤ)) → query_at queries header clauses section ≡ query
    → IsAt asked queries text (InSection header clauses section []) old → RefusesAs asked queries text refusal
