-- The texts of certificates.
use Rattle.std.specs.Prelude.{ℕ, ℤ, suc, ◌-◌, max, List, [], ◌∷◌, ◌++◌, map}
use Rattle.clauses.specs.declared.flat.TheConstants.{MOST_VARIABLES}
use Rattle.clauses.specs.Logs.{LogEntry}
use Rattle.clauses.specs.Logs.LogEntry.{Lemma, Forget}
use Rattle.clause_text.specs.Lines.{entry_text, lemmas_alone, literals_text}
use Rattle.cert_theory.specs.declared.certificate.Certificate.{Certificate}
use Rattle.cert_theory.specs.declared.certificate.InductiveCert.{InductiveCert}
use Rattle.cert_theory.specs.declared.header.Form.{Form}
use Rattle.cert_theory.specs.declared.header.Form.TheVariants.{Windowed, Clausal}
use Rattle.cert_theory.specs.declared.header.Header.{Header}
use Rattle.cert_theory.specs.declared.header.Section.{Section}
use Rattle.cert_theory.specs.declared.header.Section.TheVariants.{Base, Induction, Initial, Step, Bad}
use Rattle.cert_theory.specs.declared.header.Version.{Version}
use Rattle.cert_theory.specs.declared.header.Version.TheVariants.{One, Two}
use Rattle.cert_theory.specs.Lines.{end_line, header_lines, initial_line, lines_text}

-- how many lemmas are live after an entry, where each drop is of a live one
abbrev pub held_after : ℕ → LogEntry → ℕ
held_after held (Lemma literals hints) = suc held
held_after held (Forget number) = held - 1

-- the most that are live at once, from a number on
abbrev pub most_from : ℕ → List LogEntry → ℕ
most_from held [] = held
most_from held (entry ∷ log) = max held (most_from (held_after held entry) log)

-- the most lemmas of a log that are live at once
abbrev pub most_live : List LogEntry → ℕ
most_live log = most_from 0 log

-- how many lemmas the header of a version says to be live: the most of either section, or in the first version the
-- greatest number
abbrev pub live_of : Version → Certificate → ℕ
live_of One certificate = MOST_VARIABLES
live_of Two certificate = max (most_live certificate.base) (most_live certificate.induction)

-- the header of a certificate in a version
abbrev pub header_of : Version → Certificate → Header
header_of version certificate = record {
  form = Windowed version;
  visits = certificate.visits;
  window = certificate.window;
  live = live_of version certificate;
}

-- the entries of a log that have lines
abbrev pub printed : Form → List LogEntry → List LogEntry
printed (Windowed One) log = lemmas_alone log
printed (Windowed Two) log = log
printed Clausal log = log

-- their lines
abbrev pub entry_lines : Form → List LogEntry → List (List ℕ)
entry_lines form log = map entry_text (printed form log)

-- the lines of a section, with the word that ends it
abbrev pub section_lines : Form → Section → List LogEntry → List (List ℕ)
section_lines form section log = entry_lines form log ++ end_line section ∷ []

-- all lines of a certificate
abbrev pub certificate_lines : Version → Certificate → List (List ℕ)
certificate_lines version certificate =
    header_lines certificate.assertion (header_of version certificate)
    ++ entry_lines (Windowed version) certificate.base
    ++ end_line Base ∷ section_lines (Windowed version) Induction certificate.induction

-- the text of a certificate in a version
abbrev pub cert_text : Version → Certificate → List ℕ
cert_text version certificate = lines_text (certificate_lines version certificate)

-- how many lemmas the header of a certificate of clauses says to be live: the most of any section
abbrev pub inductive_live : InductiveCert → ℕ
inductive_live certificate =
    max (most_live certificate.initial) (max (most_live certificate.step) (most_live certificate.bad))

-- its header
abbrev pub inductive_header : InductiveCert → Header
inductive_header certificate = record {
  form = Clausal;
  visits = certificate.visits;
  window = 1;
  live = inductive_live certificate;
}

-- the lines of clauses, with the word behind them
abbrev pub clause_lines : List (List ℤ) → List (List ℕ)
clause_lines clauses = map literals_text clauses ++ initial_line ∷ []

-- the lines of the sections of three logs
abbrev pub log_lines_of : InductiveCert → List (List ℕ)
log_lines_of certificate =
    section_lines Clausal Initial certificate.initial
    ++ (section_lines Clausal Step certificate.step ++ section_lines Clausal Bad certificate.bad)

-- all lines of a certificate of clauses
abbrev pub inductive_lines : InductiveCert → List (List ℕ)
inductive_lines certificate =
    header_lines certificate.assertion (inductive_header certificate)
    ++ (clause_lines certificate.clauses ++ log_lines_of certificate)

-- its text
abbrev pub inductive_text : InductiveCert → List ℕ
inductive_text certificate = lines_text (inductive_lines certificate)
