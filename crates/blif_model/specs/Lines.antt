-- The lines of a netlist's text: each is its words, and those without words are passed over.
use Rattle.std.specs.Prelude.{ℕ, List, [], ◌∷◌, ◌++◌, Option, None, Some}
use Rattle.psl_base.specs.Tokens.{PlacedToken}
use Rattle.psl_base.specs.declared.place.Place.{Place}
use Rattle.blif_model.specs.Pieces.{Piece, Word, LineEnd, Backslash, pieces}

-- the words of a line, and the place of a backslash at its end that joins nothing
pub record Line : Type 0 where
  pub words : List PlacedToken
  pub stray : Option Place

-- a line that ends, where it has words
abbrev pub ended : List PlacedToken → List Line
ended [] = []
ended (t ∷ ts) = record { words = t ∷ ts; stray = None } ∷ []

-- the lines in what is left of a text, the first of which begins with these words
abbrev pub lines_from : List PlacedToken → List Piece → List Line
lines_from words [] = ended words
lines_from words (Word t ∷ rest) = lines_from (words ++ t ∷ []) rest
lines_from words (LineEnd ∷ rest) = ended words ++ lines_from [] rest
lines_from words (Backslash place ∷ rest) = record { words = words; stray = Some place } ∷ []

abbrev pub lines : List ℕ → List Line
lines text = lines_from [] (pieces text)
