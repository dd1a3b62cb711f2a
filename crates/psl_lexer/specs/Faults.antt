-- The faults of a text. Each is a fact of a place and of what stands there, where what stands before it
-- has none. So there is one at most, the first of the text; at one place there are never two.
use Rattle.std.specs.Prelude.{◌≡◌, ◌≢◌, ℕ, ◌+◌, List, [], ◌∷◌, ◌++◌, length, drop, false, Some, None, IsTrue}
use Rattle.std.specs.List.{list_all}
use Rattle.psl_base.specs.declared.place.Place.{Place}
use Rattle.psl_lexer.specs.declared.kind.TokenKind.{TokenKind}
use Rattle.psl_lexer.specs.declared.token.Token.{Token}
use Rattle.psl_lexer.specs.declared.fault.LexFault.{LexFault}
use Rattle.psl_lexer.specs.declared.fault.LexFault.TheVariants.{BadByte, Unended, NumberTooLarge, NoMemory}
use Rattle.psl_lexer.specs.Bytes.{is_white, is_solid, is_digit, base_of, is_digit_of}
use Rattle.psl_lexer.specs.Tokens.{Lexeme, Character, bytes_of, character_bytes, IsToken, IsFirst, IsNumber, AreCharacters, is_too_large}
use Rattle.psl_lexer.specs.Lexed.{IsReadTo}
use Rattle.psl_base.specs.Places.{place_at}

-- what is left of a text where a byte is bad
pub data BadSite : Type 0 where
  -- a byte that begins nothing, and what follows
  Foreign : ℕ → List ℕ → BadSite
  -- a number and `'`, a byte that names no base, and what follows
  NoBase : List ℕ → ℕ → List ℕ → BadSite
  -- a number, `'`, a base's letter, the base, a byte that is no digit of it, and what follows
  NoDigit : List ℕ → ℕ → ℕ → ℕ → List ℕ → BadSite

abbrev pub bad_bytes : BadSite → List ℕ
bad_bytes (Foreign bad behind) = bad ∷ behind
bad_bytes (NoBase size bad behind) = size ++ 39 ∷ bad ∷ behind
bad_bytes (NoDigit size letter base bad behind) = size ++ 39 ∷ letter ∷ bad ∷ behind

-- how many bytes stand before the bad one
abbrev pub bad_offset : BadSite → ℕ
bad_offset (Foreign bad behind) = 0
bad_offset (NoBase size bad behind) = length size + 1
bad_offset (NoDigit size letter base bad behind) = length size + 2

-- a `//` or `/*` begins a comment, also where that does not end
abbrev pub BeginsComment : ℕ → List ℕ → Type 0
BeginsComment first [] = ⊥
BeginsComment first (second ∷ _) = (first ≡ 47) × ((second ≡ 47 → ⊥) → second ≡ 42)

-- A byte is bad: it begins no token, no white space and no comment, and no string, constant or escaped
-- name that would not end; so a `\` is bad directly before white space. Or it stands where a constant
-- wants a base or a digit.
abbrev pub IsBad : BadSite → Type 0
IsBad (Foreign bad behind) =
    ((lexeme : Lexeme) (kind : TokenKind) (after : List ℕ) → bytes_of lexeme ++ after ≡ bad ∷ behind → IsToken lexeme kind after → ⊥)
    × (is_white bad ≡ false) × (BeginsComment bad behind → ⊥) × (bad ≢ 34) × (is_digit bad ≡ false)
    × (bad ≡ 92 → IsTrue (list_all is_solid behind) → ⊥)
IsBad (NoBase size bad behind) = IsNumber size × (base_of bad ≡ None)
IsBad (NoDigit size letter base bad behind) = IsNumber size × (base_of letter ≡ Some base) × (is_digit_of base bad ≡ false)

-- what is left of a text where something does not end
pub data OpenSite : Type 0 where
  OpenText : List ℕ → OpenSite
  OpenComment : List ℕ → OpenSite
  OpenName : List ℕ → OpenSite
  OpenSize : List ℕ → OpenSite
  OpenBase : List ℕ → ℕ → ℕ → OpenSite

abbrev pub open_bytes : OpenSite → List ℕ
open_bytes (OpenText behind) = 34 ∷ behind
open_bytes (OpenComment behind) = 47 ∷ 42 ∷ behind
open_bytes (OpenName behind) = 92 ∷ behind
open_bytes (OpenSize size) = size ++ 39 ∷ []
open_bytes (OpenBase size letter base) = size ++ 39 ∷ letter ∷ []

-- No quote ends the string on its line, no `*/` the comment, no white space the escaped name; or the
-- text ends where a constant wants a base or a digit.
abbrev pub IsOpen : OpenSite → Type 0
IsOpen (OpenText behind) = (characters : List Character) (after : List ℕ) → character_bytes characters ++ 34 ∷ after ≡ behind → AreCharacters characters → ⊥
IsOpen (OpenComment behind) = (inside after : List ℕ) → inside ++ 42 ∷ 47 ∷ after ≡ behind → ⊥
IsOpen (OpenName behind) = IsTrue (list_all is_solid behind)
IsOpen (OpenSize size) = IsNumber size
IsOpen (OpenBase size letter base) = IsNumber size × (base_of letter ≡ Some base)

-- the text is read up to an offset, where these bytes are left
pub record IsReached (text : List ℕ) (offset : ℕ) (left : List ℕ) : Type 0 where
  pub tokens : List Token
  pub is_read : IsReadTo text tokens offset
  pub rest : drop offset text ≡ left

pub record HasBadByte (text : List ℕ) (place : Place) : Type 0 where
  pub offset : ℕ
  pub site : BadSite
  pub reached : IsReached text offset (bad_bytes site)
  pub bad : IsBad site
  pub at : place ≡ place_at text (offset + bad_offset site)

pub record HasUnended (text : List ℕ) (place : Place) : Type 0 where
  pub offset : ℕ
  pub site : OpenSite
  pub reached : IsReached text offset (open_bytes site)
  pub open_ended : IsOpen site
  pub at : place ≡ place_at text offset

pub record HasTooLarge (text : List ℕ) (place : Place) : Type 0 where
  pub offset : ℕ
  pub lexeme : Lexeme
  pub kind : TokenKind
  pub after : List ℕ
  pub reached : IsReached text offset (bytes_of lexeme ++ after)
  pub first : IsFirst lexeme kind after
  pub too_large : IsTrue (is_too_large lexeme)
  pub at : place ≡ place_at text offset

-- the first fault of a text. Want of memory is none of the text's, and may come at any time.
abbrev pub IsFirstFault : List ℕ → LexFault → Type 0
IsFirstFault text (BadByte place) = HasBadByte text place
IsFirstFault text (Unended place) = HasUnended text place
IsFirstFault text (NumberTooLarge place) = HasTooLarge text place
IsFirstFault text NoMemory = Unit {0}
