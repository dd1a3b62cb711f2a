-- What a token is, byte by byte, and which token stands at the front of a text (IEEE 1850, clause 4.2).
use Rattle.std.specs.Prelude.{◌≡◌, ◌≢◌, ℕ, ◌≤◌, Bool, List, [], ◌∷◌, ◌++◌, length, false, ◌==◌, IsTrue, Some}
use Rattle.std.specs.List.{list_all}
use Rattle.psl_lexer.specs.declared.kind.TokenKind.{TokenKind}
use Rattle.psl_lexer.specs.declared.kind.TokenKind.TheVariants.{Name, Number, Constant, Quoted}
use Rattle.psl_lexer.specs.Bytes.{is_white, is_solid, begins_name, continues_name, is_digit, continues_number, base_of, is_digit_of, continues_digits}
use Rattle.psl_lexer.specs.Spellings.{kind_in, strong_words, overlapping_words, marks, word_kind}
use Rattle.psl_lexer.specs.Values.{value_of, is_past_number, is_past_size}

-- a byte of a string, or a `\` and the byte behind it
pub data Character : Type 0 where
  Single : ℕ → Character
  Escape : ℕ → Character

-- a token, by its parts
pub data Lexeme : Type 0 where
  -- a name or a keyword that has the form of a name
  Word : List ℕ → Lexeme
  -- a word with a `!`
  StrongWord : List ℕ → Lexeme
  -- a word with `!_`
  OverlappingWord : List ℕ → Lexeme
  -- an escaped name: what stands behind the `\`, and a byte of white space
  EscapedName : List ℕ → ℕ → Lexeme
  -- a string: what stands between its quotes
  Text : List Character → Lexeme
  -- a number
  Digits : List ℕ → Lexeme
  -- a constant: its size, its base's letter, its base and its digits
  Sized : List ℕ → ℕ → ℕ → List ℕ → Lexeme
  -- punctuation
  Mark : List ℕ → Lexeme

abbrev pub character_bytes : List Character → List ℕ
character_bytes [] = []
character_bytes (Single byte ∷ more) = byte ∷ character_bytes more
character_bytes (Escape byte ∷ more) = 92 ∷ byte ∷ character_bytes more

-- how a token is spelled
abbrev pub bytes_of : Lexeme → List ℕ
bytes_of (Word word) = word
bytes_of (StrongWord word) = word ++ 33 ∷ []
bytes_of (OverlappingWord word) = word ++ 33 ∷ 95 ∷ []
bytes_of (EscapedName name white) = 92 ∷ (name ++ white ∷ [])
bytes_of (Text characters) = 34 ∷ (character_bytes characters ++ 34 ∷ [])
bytes_of (Digits digits) = digits
bytes_of (Sized size letter base digits) = size ++ 39 ∷ letter ∷ digits
bytes_of (Mark mark) = mark

-- what a token says: its bytes, but of an escaped name the name
abbrev pub text_of : Lexeme → List ℕ
text_of (EscapedName name white) = name
text_of (Word word) = word
text_of (StrongWord word) = word ++ 33 ∷ []
text_of (OverlappingWord word) = word ++ 33 ∷ 95 ∷ []
text_of (Text characters) = 34 ∷ (character_bytes characters ++ 34 ∷ [])
text_of (Digits digits) = digits
text_of (Sized size letter base digits) = size ++ 39 ∷ letter ∷ digits
text_of (Mark mark) = mark

-- a word: a letter or `_`, and letters, digits, `_` and `$`
abbrev pub IsWord : List ℕ → Type 0
IsWord [] = ⊥
IsWord (first ∷ others) = IsTrue (begins_name first) × IsTrue (list_all continues_name others)

-- a number: a digit, and digits and `_`
abbrev pub IsNumber : List ℕ → Type 0
IsNumber [] = ⊥
IsNumber (first ∷ others) = IsTrue (is_digit first) × IsTrue (list_all continues_number others)

-- digits of a base: one of them, and more of them and `_`
abbrev pub AreDigits : ℕ → List ℕ → Type 0
AreDigits base [] = ⊥
AreDigits base (first ∷ others) = IsTrue (is_digit_of base first) × IsTrue (list_all (continues_digits base) others)

-- what may stand in a string: no quote and no `\` alone, and no line feed at all
abbrev pub AreCharacters : List Character → Type 0
AreCharacters [] = Unit {0}
AreCharacters (Single byte ∷ more) = (byte ≢ 34) × (byte ≢ 92) × (byte ≢ 10) × AreCharacters more
AreCharacters (Escape byte ∷ more) = (byte ≢ 10) × AreCharacters more

-- no byte that passes stands at the front
abbrev pub Stops : (ℕ → Bool) → List ℕ → Type 0
Stops passes [] = Unit {0}
Stops passes (byte ∷ _) = passes byte ≡ false

-- A token of a kind may stand before what follows. A word takes a `!` only where no `=` follows, and
-- `!_` only where no word goes on behind it. A number is none where digits follow, or the `'` of a constant.
abbrev pub IsToken : Lexeme → TokenKind → List ℕ → Type 0
IsToken (Word word) kind after = IsWord word × (kind ≡ word_kind word)
IsToken (StrongWord word) kind after = IsWord word × (kind_in strong_words word ≡ Some kind) × Stops (λ byte. byte == 61) after
IsToken (OverlappingWord word) kind after = IsWord word × (kind_in overlapping_words word ≡ Some kind) × Stops continues_name after
IsToken (EscapedName name white) kind after = (name ≢ []) × IsTrue (list_all is_solid name) × IsTrue (is_white white) × (kind ≡ Name)
IsToken (Text characters) kind after = AreCharacters characters × (kind ≡ Quoted)
IsToken (Digits digits) kind after = IsNumber digits × Stops continues_number after × Stops (λ byte. byte == 39) after × (kind ≡ Number)
IsToken (Sized size letter base digits) kind after = IsNumber size × (base_of letter ≡ Some base) × AreDigits base digits × (kind ≡ Constant)
IsToken (Mark mark) kind after = kind_in marks mark ≡ Some kind

-- The token that stands at the front of a text: no longer front of it is a token.
pub record IsFirst (lexeme : Lexeme) (kind : TokenKind) (after : List ℕ) : Type 0 where
  pub token : IsToken lexeme kind after
  pub longest : (other : Lexeme) (other_kind : TokenKind) (rest : List ℕ) →
      bytes_of other ++ rest ≡ bytes_of lexeme ++ after → IsToken other other_kind rest →
      length (bytes_of other) ≤ length (bytes_of lexeme)

-- a number past 2^64 - 1, a size of 0 or past 64, or a value that needs more bits than its size
abbrev pub is_too_large : Lexeme → Bool
is_too_large (Digits digits) = is_past_number (value_of 10 digits)
is_too_large (Sized size letter base digits) = is_past_size (value_of 10 size) (value_of base digits)
is_too_large _ = false
