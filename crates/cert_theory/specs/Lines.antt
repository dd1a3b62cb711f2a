-- The lines of a certificate that are no entries', without their line feeds.
use Rattle.std.specs.Prelude.{◌≡◌, ℕ, ℤ, List, [], ◌∷◌, ◌++◌, codes, decimal, IsTrue}
use Rattle.clauses.specs.Literals.{clause_within}
use Rattle.clauses.specs.declared.flat.TheConstants.{MOST_VARIABLES}
use Rattle.clause_text.specs.Lines.{literals_text}
use Rattle.cert_theory.specs.declared.header.Field.{Field}
use Rattle.cert_theory.specs.declared.header.Field.TheVariants.{Assertion, Visits, Window, Live}
use Rattle.cert_theory.specs.declared.header.Form.{Form}
use Rattle.cert_theory.specs.declared.header.Form.TheVariants.{Windowed, Clausal}
use Rattle.cert_theory.specs.declared.header.Header.{Header}
use Rattle.cert_theory.specs.declared.header.Section.{Section}
use Rattle.cert_theory.specs.declared.header.Section.TheVariants.{Base, Induction, Initial, Step, Bad}
use Rattle.cert_theory.specs.declared.header.Version.TheVariants.{One, Two}

-- lines, each ended by a line feed
abbrev pub lines_text : List (List ℕ) → List ℕ
lines_text [] = []
lines_text (line ∷ lines) = line ++ 10 ∷ lines_text lines

-- the first line
abbrev pub form_line : Form → List ℕ
form_line (Windowed One) = codes "pslc-cert 1"
form_line (Windowed Two) = codes "pslc-cert 2"
form_line Clausal = codes "pslc-cert 3"

-- the word in front of a number
abbrev pub word_of : Field → List ℕ
word_of Assertion = codes "assertion"
word_of Visits = codes "visits"
word_of Window = codes "window"
word_of Live = codes "live"

-- the line that gives a number: the word, a blank and the number
abbrev pub field_line : Field → ℕ → List ℕ
field_line field number = word_of field ++ 32 ∷ decimal number

-- the last line of the header
abbrev pub last_line : Form → List ℕ
last_line (Windowed version) = codes "base"
last_line Clausal = codes "clauses"

-- the line of a clause: its literals and a 0
pub record IsClauseLine (line : List ℕ) (clause : List ℤ) : Type 0 where
  pub is : line ≡ literals_text clause
  pub has : IsTrue (clause_within MOST_VARIABLES clause)

-- the word that ends the clauses
abbrev pub initial_line : List ℕ
initial_line = codes "initial"

-- the word that ends a section
abbrev pub end_line : Section → List ℕ
end_line Base = codes "induction"
end_line Induction = codes "end"
end_line Initial = codes "step"
end_line Step = codes "bad"
end_line Bad = codes "end"

-- the window: a certificate of clauses has none
abbrev pub window_lines : Form → ℕ → List (List ℕ)
window_lines (Windowed version) window = field_line Window window ∷ []
window_lines Clausal window = []

-- how many lemmas are live: the first version does not say it
abbrev pub live_lines : Form → ℕ → List (List ℕ)
live_lines (Windowed One) live = []
live_lines (Windowed Two) live = field_line Live live ∷ []
live_lines Clausal live = field_line Live live ∷ []

-- the lines of a header, of the certificate of a directive
abbrev pub header_lines : ℕ → Header → List (List ℕ)
header_lines number header =
    form_line header.form
    ∷ field_line Assertion number
    ∷ field_line Visits header.visits
    ∷ (window_lines header.form header.window ++ (live_lines header.form header.live ++ last_line header.form ∷ []))
