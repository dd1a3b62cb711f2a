-- A netlist's text in pieces: words, and the ends of lines (Berkeley Logic Interchange Format, the introduction on
-- lines). `#` begins a comment up to the line's end, and a backslash that is the last byte of a line outside a comment
-- joins the next line.
use Rattle.std.specs.Prelude.{ℕ, suc, Bool, true, false, ◌==◌, cond, List, [], ◌∷◌, drop}
use Rattle.psl_base.specs.Bytes.{is_white}
use Rattle.psl_base.specs.Places.{place_at}
use Rattle.psl_base.specs.Tokens.{PlacedToken, token_at}
use Rattle.psl_base.specs.declared.place.Place.{Place}
use Rattle.blif_model.specs.declared.class.Class.{Class}
use Rattle.blif_model.specs.declared.class.Class.TheVariants.{LineFeed, White, Comment, Join, Stray, Part}

-- what a backslash is, by the bytes behind it: it joins where these are a line's end and more, and joins nothing where
-- the text ends
abbrev pub class_of_backslash : List ℕ → Class
class_of_backslash [] = Stray
class_of_backslash (b ∷ []) = cond (b == 10) Stray Part
class_of_backslash (b ∷ c ∷ bs) = cond (b == 10) Join Part

-- what a byte is, by the bytes behind it
abbrev pub class_of : ℕ → List ℕ → Class
class_of b bs =
    cond (b == 10) LineFeed
    (cond (is_white b) White
    (cond (b == 35) Comment
    (cond (b == 92) (class_of_backslash bs) Part)))

-- a part of a word
abbrev pub is_part : Class → Bool
is_part LineFeed = false
is_part White = false
is_part Comment = false
is_part Join = false
is_part Stray = false
is_part Part = true

-- the next byte is there, and is a part of a word
abbrev pub goes_on : List ℕ → Bool
goes_on [] = false
goes_on (b ∷ bs) = is_part (class_of b bs)

-- a word, the end of a line, or a backslash behind which the text ends, at its place
pub data Piece : Type 0 where
  Word : PlacedToken → Piece
  LineEnd : Piece
  Backslash : Place → Piece

-- a byte before the first word, whose text it begins
abbrev pub onto_word : List ℕ → ℕ → ℕ → List Piece → List Piece
onto_word whole at b (Word t ∷ pieces) = Word (token_at whole at (b ∷ t.text)) ∷ pieces
onto_word whole at b pieces = pieces

-- the pieces from a byte of a class on, by those behind it where no comment begins, and where one does
abbrev pub with_byte : List ℕ → Class → ℕ → ℕ → Bool → List Piece → List Piece → List Piece
with_byte whole LineFeed at b on rest commented = LineEnd ∷ rest
with_byte whole White at b on rest commented = rest
with_byte whole Comment at b on rest commented = commented
with_byte whole Join at b on rest commented = drop 1 rest
with_byte whole Stray at b on rest commented = Backslash (place_at whole at) ∷ drop 1 rest
with_byte whole Part at b on rest commented = cond on (onto_word whole at b rest) (Word (token_at whole at (b ∷ [])) ∷ rest)

-- the pieces in what is left of a text, before which so many of its bytes stand, inside a comment or outside
abbrev pub pieces_from : List ℕ → ℕ → Bool → List ℕ → List Piece
pieces_from whole at commented [] = []
pieces_from whole at true (b ∷ bs) = cond (b == 10) (LineEnd ∷ pieces_from whole (suc at) false bs) (pieces_from whole (suc at) true bs)
pieces_from whole at false (b ∷ bs) = with_byte whole (class_of b bs) at b (goes_on bs) (pieces_from whole (suc at) false bs) (pieces_from whole (suc at) true bs)

-- the pieces of a text
abbrev pub pieces : List ℕ → List Piece
pieces text = pieces_from text 0 false text
