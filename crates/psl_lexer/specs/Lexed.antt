-- The tokens of a text.
use Rattle.std.specs.Prelude.{◌≡◌, ℕ, ◌+◌, List, [], ◌∷◌, ◌++◌, length, drop, false}
use Rattle.psl_lexer.specs.declared.kind.TokenKind.{TokenKind}
use Rattle.psl_lexer.specs.declared.token.Token.{Token}
use Rattle.psl_lexer.specs.Tokens.{Lexeme, bytes_of, text_of, IsFirst, is_too_large}
use Rattle.psl_lexer.specs.Gaps.{Gap, gap_bytes, IsGap}
use Rattle.psl_base.specs.Places.{place_at}

-- a piece of a text
pub data Piece : Type 0 where
  Between : Gap → Piece
  Lexed : Lexeme → TokenKind → Piece

-- the token of a lexeme before which so many bytes of the text stand
abbrev pub token_at : List ℕ → ℕ → Lexeme → TokenKind → Token
token_at text start lexeme kind = record {
  kind = kind;
  text = text_of lexeme;
  start = start;
  end = start + length (bytes_of lexeme);
  place = place_at text start;
}

-- The pieces follow one another in the text from one offset to another, and have these tokens. Each
-- token is the first of what is left of the text, and its number is not too large.
abbrev pub Follow : List ℕ → ℕ → List Piece → List Token → ℕ → Type 0
Follow text start [] tokens end = (start ≡ end) × (tokens ≡ [])
Follow text start (Between gap ∷ pieces) tokens end =
    (after : List ℕ) × (drop start text ≡ gap_bytes gap ++ after) × IsGap gap after
    × Follow text (start + length (gap_bytes gap)) pieces tokens end
Follow text start (Lexed lexeme kind ∷ pieces) tokens end =
    (after : List ℕ) × (others : List Token) × (drop start text ≡ bytes_of lexeme ++ after) × IsFirst lexeme kind after
    × (is_too_large lexeme ≡ false) × (tokens ≡ token_at text start lexeme kind ∷ others)
    × Follow text (start + length (bytes_of lexeme)) pieces others end

-- up to an offset the text is pieces with these tokens, and no fault
pub record IsReadTo (text : List ℕ) (tokens : List Token) (end : ℕ) : Type 0 where
  pub pieces : List Piece
  pub follow : Follow text 0 pieces tokens end

-- a text has these tokens, and no fault
abbrev pub IsLexed : List ℕ → List Token → Type 0
IsLexed text tokens = IsReadTo text tokens (length text)
