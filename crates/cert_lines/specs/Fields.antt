-- What is read of each line of a header.
use Rattle.std.specs.Prelude.{◌≡◌, ◌⊎◌, ℕ, List}
use Rattle.clauses.specs.declared.flat.TheConstants.{MOST_VARIABLES}
use Rattle.cert_theory.specs.declared.answer.CertReason.{CertReason}
use Rattle.cert_theory.specs.declared.answer.CertReason.TheVariants.{BadHeader, WrongAssertion}
use Rattle.cert_theory.specs.declared.header.Asked.{Asked}
use Rattle.cert_theory.specs.declared.header.Field.{Field}
use Rattle.cert_theory.specs.declared.header.Field.TheVariants.{Assertion, Window, Live}
use Rattle.cert_theory.specs.declared.header.Form.{Form}
use Rattle.cert_theory.specs.declared.header.Form.TheVariants.{Windowed, Clausal}
use Rattle.cert_theory.specs.declared.header.Version.TheVariants.{One, Two}
use Rattle.cert_theory.specs.Headers.{IsAsked, Says}
use Rattle.cert_theory.specs.Lines.{form_line, last_line}
use Rattle.cert_lines.specs.declared.reading.Reading.{Reading}
use Rattle.cert_lines.specs.Readings.{Takes}

-- a line names a form, gives a number, or gives that of the directive that is asked for
abbrev pub GivesForm : Form → Reading → Reading → Type 0
GivesForm form old new = Takes (form_line form) old new

abbrev pub GivesNumber : Field → ℕ → Reading → Reading → Type 0
GivesNumber field number old new = (line : List ℕ) × Says field line number × Takes line old new

abbrev pub IsAskedFor : Asked → Reading → Reading → Type 0
IsAskedFor asked old new = (number : ℕ) × IsAsked asked number × GivesNumber Assertion number old new

-- a certificate of clauses does not say a window
abbrev pub GivesWindow : Form → ℕ → Reading → Reading → Type 0
GivesWindow (Windowed version) window old new = GivesNumber Window window old new
GivesWindow Clausal window old new = (window ≡ 1) × (new ≡ old)

-- the first version does not say how many lemmas are live
abbrev pub GivesLive : Form → ℕ → Reading → Reading → Type 0
GivesLive (Windowed One) live old new = (live ≡ MOST_VARIABLES) × (new ≡ old)
GivesLive (Windowed Two) live old new = GivesNumber Live live old new
GivesLive Clausal live old new = GivesNumber Live live old new

-- a line that does not, and why it is refused
abbrev pub IsNoForm : List ℕ → CertReason → Type 0
IsNoForm line reason = (reason ≡ BadHeader) × ((form : Form) → line ≡ form_line form → ⊥)

abbrev pub IsNoNumber : Field → List ℕ → CertReason → Type 0
IsNoNumber field line reason = (reason ≡ BadHeader) × ((number : ℕ) → Says field line number → ⊥)

abbrev pub IsNoAsked : Asked → List ℕ → CertReason → Type 0
IsNoAsked asked line reason =
    IsNoNumber Assertion line reason
    ⊎ ((reason ≡ WrongAssertion) × (number : ℕ) × Says Assertion line number × (IsAsked asked number → ⊥))

abbrev pub IsNoWindow : Form → List ℕ → CertReason → Type 0
IsNoWindow (Windowed version) line reason = IsNoNumber Window line reason
IsNoWindow Clausal line reason = ⊥

abbrev pub IsNoLive : Form → List ℕ → CertReason → Type 0
IsNoLive (Windowed One) line reason = ⊥
IsNoLive (Windowed Two) line reason = IsNoNumber Live line reason
IsNoLive Clausal line reason = IsNoNumber Live line reason

abbrev pub IsNoLast : Form → List ℕ → CertReason → Type 0
IsNoLast form line reason = (reason ≡ BadHeader) × (line ≡ last_line form → ⊥)
