-- What stands at the front of a text.
use Rattle.std.specs.Prelude.{◌≡◌, ℕ, ◌-◌, ◌<◌, ◌≤◌, ◌⊎◌, List, ◌++◌, length, take, drop, true, false}
use Rattle.psl_lexer.specs.declared.kind.TokenKind.{TokenKind}
use Rattle.psl_lexer.specs.declared.kind.TokenKind.TheVariants.{Name}
use Rattle.psl_lexer.specs.declared.front.Front.{Front}
use Rattle.psl_lexer.specs.declared.front.Front.TheVariants.{Skip, Token, Escaped, Bad, Unended, TooLarge}
use Rattle.psl_lexer.specs.Tokens.{Lexeme, bytes_of, text_of, IsToken, is_too_large}
use Rattle.psl_lexer.specs.Gaps.{Gap, gap_bytes, IsGap}
use Rattle.psl_lexer.specs.Faults.{BadSite, bad_bytes, bad_offset, IsBad, OpenSite, open_bytes, IsOpen}

-- a token of so many bytes stands at the front of a text, and is or is not too large
pub record HasToken (rest : List ℕ) (lexeme : Lexeme) (kind : TokenKind) (len : ℕ) : Type 0 where
  pub after : List ℕ
  pub is : rest ≡ bytes_of lexeme ++ after
  pub token : IsToken lexeme kind after
  pub len_is : len ≡ length (bytes_of lexeme)

-- what was found stands there
abbrev pub Stands : List ℕ → Front → Type 0
Stands rest (Skip len) = (gap : Gap) × (after : List ℕ) × (rest ≡ gap_bytes gap ++ after) × IsGap gap after × (len ≡ length (gap_bytes gap))
Stands rest (Token kind len) = (lexeme : Lexeme) × HasToken rest lexeme kind len × (is_too_large lexeme ≡ false) × (text_of lexeme ≡ take len rest)
Stands rest (Escaped len) = (lexeme : Lexeme) × HasToken rest lexeme Name len × (is_too_large lexeme ≡ false) × (text_of lexeme ≡ take (len - 2) (drop 1 rest)) × (2 ≤ len)
Stands rest (Bad offset) = (site : BadSite) × (rest ≡ bad_bytes site) × IsBad site × (offset ≡ bad_offset site)
Stands rest Unended = (site : OpenSite) × (rest ≡ open_bytes site) × IsOpen site
Stands rest (TooLarge len) = (lexeme : Lexeme) × (kind : TokenKind) × HasToken rest lexeme kind len × (is_too_large lexeme ≡ true)

-- a token that stands at the front is what was found, or is shorter
abbrev pub Covers : List ℕ → Lexeme → TokenKind → Front → Type 0
Covers rest lexeme kind (Skip len) = ⊥
Covers rest lexeme kind (Token found len) =
    (length (bytes_of lexeme) < len)
    ⊎ ((length (bytes_of lexeme) ≡ len) × (kind ≡ found) × (is_too_large lexeme ≡ false) × (text_of lexeme ≡ take len rest))
Covers rest lexeme kind (Escaped len) =
    (length (bytes_of lexeme) ≡ len) × (kind ≡ Name) × (is_too_large lexeme ≡ false) × (text_of lexeme ≡ take (len - 2) (drop 1 rest))
Covers rest lexeme kind (Bad offset) = ⊥
Covers rest lexeme kind Unended = ⊥
Covers rest lexeme kind (TooLarge len) =
    (length (bytes_of lexeme) < len) ⊎ ((length (bytes_of lexeme) ≡ len) × (is_too_large lexeme ≡ true))

-- what was found, where each token that stands there is found or shorter
pub record IsFront (rest : List ℕ) (front : Front) : Type 0 where
  pub stands : Stands rest front
  pub covers : (lexeme : Lexeme) (kind : TokenKind) (after : List ℕ) → rest ≡ bytes_of lexeme ++ after → IsToken lexeme kind after → Covers rest lexeme kind front

-- it lies in what is left of the text
abbrev pub IsWithin : ℕ → Front → Type 0
IsWithin left (Skip len) = (0 < len) × (len ≤ left)
IsWithin left (Token kind len) = (0 < len) × (len ≤ left)
IsWithin left (Escaped len) = (2 ≤ len) × (len ≤ left)
IsWithin left (Bad offset) = offset ≤ left
IsWithin left Unended = Unit {0}
IsWithin left (TooLarge len) = Unit {0}
