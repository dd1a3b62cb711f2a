-- The words of a text in the DIMACS format: its tokens but for comments. A line whose first token begins with a `c` is a
-- comment, and a line whose first token begins with a `%` ends the text.
use Rattle.std.specs.Prelude.{ℕ, ◌==◌, Bool, true, false, cond, List, [], ◌∷◌, reverse, take}
use Rattle.psl_base.specs.Bytes.{is_white}
use Rattle.psl_base.specs.Tokens.{PlacedToken, TokensLeft, all_tokens}
use Rattle.sat_dimacs.specs.declared.words.Part.{Part}
use Rattle.sat_dimacs.specs.declared.words.Part.TheVariants as part

-- of the bytes before a place, the nearest first: only white space stands there since the beginning of the line
abbrev pub begins_line : List ℕ → Bool
begins_line [] = true
begins_line (byte ∷ bytes) = cond (byte == 10) true (cond (is_white byte) (begins_line bytes) false)

-- what the first token of a line is
abbrev pub first_part : List ℕ → Part
first_part [] = part.Word
first_part (byte ∷ bytes) = cond (byte == 99) part.Comment (cond (byte == 37) part.End part.Word)

-- what a token is that is not the first of its line: in a comment just where the one before it is
abbrev pub other_part : Bool → Part
other_part comment = cond comment part.Comment part.Word

abbrev pub part_of : List ℕ → Bool → PlacedToken → Part
part_of text comment token = cond (begins_line (reverse (take token.at text))) (first_part token.text) (other_part comment)

-- a token before words, by what it is: `words` are those behind a word, `others` those behind a token of a comment
abbrev pub add_token : Part → PlacedToken → List PlacedToken → List PlacedToken → List PlacedToken
add_token part.Word token words others = token ∷ words
add_token part.Comment token words others = others
add_token part.End token words others = []

-- the words among tokens that are left of a text; the token before them stands in a comment, or not
abbrev pub words_among : List ℕ → Bool → List PlacedToken → List PlacedToken
words_among text comment [] = []
words_among text comment (token ∷ tokens) =
    add_token (part_of text comment token) token (words_among text false tokens) (words_among text true tokens)

-- the words that are left
abbrev pub left_words : List ℕ → TokensLeft → Bool → Bool → TokensLeft
left_words text left comment ended = record { tokens = cond ended [] (words_among text comment left.tokens); end = left.end }

-- all words of a text
abbrev pub all_words : List ℕ → TokensLeft
all_words text = left_words text (all_tokens text) false false
