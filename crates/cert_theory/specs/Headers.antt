-- The headers of certificates: which numbers may stand there.
use Rattle.std.specs.Prelude.{◌≡◌, ℕ, ◌≤◌, List, ◌++◌, true}
use Rattle.clauses.specs.declared.flat.TheConstants.{MOST_VARIABLES}
use Rattle.cert_theory.specs.declared.header.Asked.{Asked}
use Rattle.cert_theory.specs.declared.header.Field.{Field}
use Rattle.cert_theory.specs.declared.header.Field.TheVariants.{Assertion, Visits, Window, Live}
use Rattle.cert_theory.specs.declared.header.Form.TheVariants.{Windowed, Clausal}
use Rattle.cert_theory.specs.declared.header.Header.{Header}
use Rattle.cert_theory.specs.declared.header.TheConstants.{MOST_VISITS, MOST_WINDOW}
use Rattle.cert_theory.specs.declared.header.Version.TheVariants.{One}
use Rattle.cert_theory.specs.Lines.{field_line, header_lines, lines_text}

-- the least number that may stand in a line, and the greatest
abbrev pub least_of : Field → ℕ
least_of Assertion = 1
least_of Visits = 0
least_of Window = 1
least_of Live = 0

abbrev pub most_of : Field → ℕ
most_of Assertion = 4294967295
most_of Visits = MOST_VISITS
most_of Window = MOST_WINDOW
most_of Live = MOST_VARIABLES

-- a number may stand there
pub record MayBe (field : Field) (number : ℕ) : Type 0 where
  pub least : least_of field ≤ number
  pub most : number ≤ most_of field

-- a line gives a number that may stand there
pub record Says (field : Field) (line : List ℕ) (number : ℕ) : Type 0 where
  pub is : line ≡ field_line field number
  pub may : MayBe field number

-- a number is that of the directive that is asked for, which claims something
abbrev pub IsAsked : Asked → ℕ → Type 0
IsAsked asked number = (number ≡ asked.number) × (asked.has_claim ≡ true)

-- the numbers of a header; in the first version as many lemmas may be live as there are numbers, and where the
-- certificate has clauses the window is 1
pub record IsHeader (header : Header) : Type 0 where
  pub visits : MayBe Visits header.visits
  pub window : MayBe Window header.window
  pub live : MayBe Live header.live
  pub first : header.form ≡ Windowed One → header.live ≡ MOST_VARIABLES
  pub third : header.form ≡ Clausal → header.window ≡ 1

-- a text begins with the header of a certificate of the directive that is asked for
pub record HasHeader (asked : Asked) (text : List ℕ) (header : Header) : Type 0 where
  pub number : MayBe Assertion asked.number
  pub has_claim : asked.has_claim ≡ true
  pub numbers : IsHeader header
  pub rest : List ℕ
  pub is : text ≡ lines_text (header_lines asked.number header) ++ rest
