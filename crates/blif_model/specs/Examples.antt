-- Worked examples of the definitions: texts with the words of their lines, and texts with their first fault.
use Rattle.std.specs.Prelude.{◌≡◌, ℕ, List, [], ◌∷◌, map, codes, Result, Ok, Err}
use Rattle.psl_base.specs.declared.place.Place.{Place}
use Rattle.blif_model.specs.declared.fault.BlifFault.{BlifFault}
use Rattle.blif_model.specs.declared.fault.BlifFault.TheVariants.{UnknownCommand, BadModel, BadRow, MixedRows, BadLatch, LatchType, TwoClocks, DrivenTwice, MissingEnd, SecondModel}
use Rattle.blif_model.specs.Files.{Part, models_of}
use Rattle.blif_model.specs.Lines.{Line, lines}
use Rattle.blif_model.specs.Models.{Model, names_of}

-- the words of the lines
abbrev pub texts_of : List Line → List (List (List ℕ))
texts_of found = map (λ line. map (λ word. word.text) line.words) found

-- a backslash before a line's end joins the next line, and a `#` hides what follows it, also inside a word and a
-- backslash; a carriage return is white space, and lines without words are none
abbrev pub LinesAreJoined : Type 0
LinesAreJoined =
    texts_of (lines (codes ".inputs a\\\n b # c \\\n\n\r\n.end#x"))
    ≡ (codes ".inputs" ∷ codes "a" ∷ codes "b" ∷ []) ∷ (codes ".end" ∷ []) ∷ []

-- a backslash that is no line's last byte is a part of a word
abbrev pub BackslashIsPart : Type 0
BackslashIsPart = texts_of (lines (codes "a\\b \\\r\nc")) ≡ (codes "a\\b" ∷ codes "\\" ∷ []) ∷ (codes "c" ∷ []) ∷ []

-- a text is refused with a fault at a line and a column
abbrev pub IsRefused : List ℕ → (Place → BlifFault) → ℕ → ℕ → Type 0
IsRefused text fault line column = models_of text ≡ Err (fault (record { line = line; column = column }))

-- the names of each model of an accepted text, in the order of their first mention
abbrev pub names_in : Result (List (Part Model)) BlifFault → List (List (List ℕ))
names_in (Ok parts) = map (λ part. names_of part.own.mentions) parts
names_in (Err fault) = []

abbrev pub NamesInOrder : Type 0
NamesInOrder =
    names_in (models_of (codes ".inputs a\n.latch b c re clk 0\n.names a c b\n11 1\n0- 1\n.outputs b\n.end\n"))
    ≡ (codes "a" ∷ codes "b" ∷ codes "c" ∷ []) ∷ []

-- one text for each fault
abbrev pub UnknownWord : Type 0
UnknownWord = IsRefused (codes ".end\n.foo\n") UnknownCommand 2 1

abbrev pub ModelBehindInputs : Type 0
ModelBehindInputs = IsRefused (codes ".inputs a\n.model m\n") BadModel 2 1

abbrev pub RowWithoutTable : Type 0
RowWithoutTable = IsRefused (codes ".names a\n1\n.inputs b\n1\n") BadRow 4 1

abbrev pub RowOfAnotherOutput : Type 0
RowOfAnotherOutput = IsRefused (codes ".inputs a\n.names a b\n1 1\n0 0\n") MixedRows 4 3

abbrev pub LatchOfOneWord : Type 0
LatchOfOneWord = IsRefused (codes ".latch a\n") BadLatch 1 1

abbrev pub LatchOfALevel : Type 0
LatchOfALevel = IsRefused (codes ".latch a a ah c\n") LatchType 1 12

abbrev pub LatchesOfTwoClocks : Type 0
LatchesOfTwoClocks = IsRefused (codes ".latch a a re c\n.latch b b re d 0\n") TwoClocks 2 12

abbrev pub InputTwice : Type 0
InputTwice = IsRefused (codes ".model m\n.inputs a a\n.end\n") DrivenTwice 2 11

abbrev pub BackslashAtTheEnd : Type 0
BackslashAtTheEnd = IsRefused (codes ".model m\n.inputs a \\\n") MissingEnd 2 11

abbrev pub LineBehindTheEnd : Type 0
LineBehindTheEnd = IsRefused (codes ".model m\n.end\n.inputs\n") SecondModel 3 1
