-- The words of a text: each has bytes and none of white space, and together they are no longer than the text.
use Rattle.std.proofs.Common.{◌≡◌, ℕ, suc, ◌+◌, ◌<◌, ◌≤◌, Bool, true, false, eqb, cond, List, [], ◌∷◌, ◌++◌, length, drop, All, refl, ap, subst, arith}
use Rattle.std.proofs.lemmas.List.Elements.{All-nil, All-cons}
use Rattle.psl_base.specs.Bytes.{is_white}
use Rattle.psl_base.specs.Tokens.{PlacedToken, token_at}
use Rattle.blif_model.specs.declared.class.Class.{Class}
use Rattle.blif_model.specs.declared.class.Class.TheVariants.{LineFeed, White, Comment, Join, Stray, Part}
use Rattle.blif_model.specs.Lines.{Line, ended, lines_from, lines}
use Rattle.blif_model.specs.Pieces.{class_of, class_of_backslash, goes_on, Piece, Word, LineEnd, Backslash, onto_word, with_byte, pieces_from, pieces}

-- how many bytes they have
abbrev pub size_of : List PlacedToken → ℕ
size_of [] = 0
size_of (word ∷ words) = length word.text + size_of words

pub size-append : (words more : List PlacedToken) → size_of (words ++ more) ≡ size_of words + size_of more
size-append [] more = omega arith
size-append (word ∷ words) more = omega (arith, size-append words more)

-- the words among pieces
abbrev words_in : List Piece → List PlacedToken
words_in [] = []
words_in (Word word ∷ rest) = word ∷ words_in rest
words_in (LineEnd ∷ rest) = words_in rest
words_in (Backslash place ∷ rest) = words_in rest

-- a part of a word is no white space
part_plain : (feed white : Bool) (class : Class) → cond feed LineFeed (cond white White class) ≡ Part → white ≡ false
part_plain true white class is = cc
part_plain false true class is = cc
part_plain false false class is = refl

plain_byte : (byte : ℕ) (rest : List ℕ) → class_of byte rest ≡ Part → is_white byte ≡ false
plain_byte byte rest is =
    part_plain (eqb byte 10) (is_white byte) (cond (eqb byte 35) Comment (cond (eqb byte 92) (class_of_backslash rest) Part)) is

abbrev pub lines_size : List Line → ℕ
lines_size [] = 0
lines_size (line ∷ lines) = size_of line.words + lines_size lines

none_later : (found : List Line) → found ++ [] ≡ found
none_later [] = refl
none_later (line ∷ found) = ap (λ (rest : List Line). line ∷ rest) (none_later found)

module _ (size : ℕ) where
  -- a word of a text of this size that has bytes, and none of white space
  pub record IsWord (word : PlacedToken) : Type 0 where
    pub within : word.at ≤ size
    pub some : 0 < length word.text
    pub plain : All (λ byte. is_white byte ≡ false) word.text

  -- some words are such
  abbrev pub AreWords : List PlacedToken → Type 0
  AreWords [] = Unit {0}
  AreWords (word ∷ words) = IsWord word × AreWords words

  pub AreWords-append : (words more : List PlacedToken) → AreWords words → AreWords more → AreWords (words ++ more)
  AreWords-append [] more all rest = rest
  AreWords-append (word ∷ words) more all rest = (all.0, AreWords-append words more all.1 rest)

  -- pieces whose words are such, and have so many bytes at the most
  record Fit (most : ℕ) (found : List Piece) : Type 0 where
    few : size_of (words_in found) ≤ most
    words : AreWords (words_in found)

  more_room : (most : ℕ) (found : List Piece) → Fit most found → Fit (suc most) found
  more_room most found fit = record { few = omega (arith, fit.few); words = fit.words }

  without_first : (most : ℕ) (found : List Piece) → Fit most found → Fit (suc most) (drop 1 found)
  without_first most [] fit = more_room most [] fit
  without_first most (Word word ∷ rest) fit = record { few = omega (arith, fit.few); words = fit.words.1 }
  without_first most (LineEnd ∷ rest) fit = record { few = omega (arith, fit.few); words = fit.words }
  without_first most (Backslash place ∷ rest) fit = record { few = omega (arith, fit.few); words = fit.words }

  one_byte : (whole : List ℕ) (at byte : ℕ) → at ≤ size → is_white byte ≡ false → IsWord (token_at whole at (byte ∷ []))
  one_byte whole at byte here plain = record {
    within = here;
    some = omega arith;
    plain = All-cons (λ b. is_white b ≡ false) byte [] plain (All-nil (λ b. is_white b ≡ false));
  }

  longer : (whole : List ℕ) (at byte : ℕ) (word : PlacedToken) → at ≤ size → is_white byte ≡ false → IsWord word → IsWord (token_at whole at (byte ∷ word.text))
  longer whole at byte word here plain is = record {
    within = here;
    some = omega arith;
    plain = All-cons (λ b. is_white b ≡ false) byte word.text plain is.plain;
  }

  onto_fit : (whole : List ℕ) (at byte most : ℕ) (found : List Piece) → at ≤ size → is_white byte ≡ false → Fit most found → Fit (suc most) (onto_word whole at byte found)
  onto_fit whole at byte most [] here plain fit = more_room most [] fit
  onto_fit whole at byte most (Word word ∷ rest) here plain fit = record {
    few = omega (arith, fit.few);
    words = (longer whole at byte word here plain fit.words.0, fit.words.1);
  }
  onto_fit whole at byte most (LineEnd ∷ rest) here plain fit = more_room most (LineEnd ∷ rest) fit
  onto_fit whole at byte most (Backslash place ∷ rest) here plain fit = more_room most (Backslash place ∷ rest) fit

  part_fit : (on : Bool) (whole : List ℕ) (at byte most : ℕ) (found : List Piece) → at ≤ size → is_white byte ≡ false → Fit most found
      → Fit (suc most) (cond on (onto_word whole at byte found) (Word (token_at whole at (byte ∷ [])) ∷ found))
  part_fit true whole at byte most found here plain fit = onto_fit whole at byte most found here plain fit
  part_fit false whole at byte most found here plain fit = record {
    few = omega (arith, fit.few);
    words = (one_byte whole at byte here plain, fit.words);
  }

  byte_fit : (class : Class) (whole : List ℕ) (at byte most : ℕ) (on : Bool) (rest commented : List Piece) → at ≤ size → (class ≡ Part → is_white byte ≡ false)
      → Fit most rest → Fit most commented → Fit (suc most) (with_byte whole class at byte on rest commented)
  byte_fit LineFeed whole at byte most on rest commented here plain fit other = more_room most (LineEnd ∷ rest) (record { few = fit.few; words = fit.words })
  byte_fit White whole at byte most on rest commented here plain fit other = more_room most rest fit
  byte_fit Comment whole at byte most on rest commented here plain fit other = more_room most commented other
  byte_fit Join whole at byte most on rest commented here plain fit other = without_first most rest fit
  byte_fit Stray whole at byte most on rest commented here plain fit other =
      let less = without_first most rest fit in
      record { few = less.few; words = less.words }
  byte_fit Part whole at byte most on rest commented here plain fit other = part_fit on whole at byte most rest here (plain refl) fit

  comment_fit : (end : Bool) (most : ℕ) (rest commented : List Piece) → Fit most rest → Fit most commented → Fit (suc most) (cond end (LineEnd ∷ rest) commented)
  comment_fit true most rest commented fit other = more_room most (LineEnd ∷ rest) (record { few = fit.few; words = fit.words })
  comment_fit false most rest commented fit other = more_room most commented other

  pieces_fit : (whole : List ℕ) (at : ℕ) (commented : Bool) (bytes : List ℕ) → at + length bytes ≤ size → Fit (length bytes) (pieces_from whole at commented bytes)
  pieces_fit whole at true [] room = record { few = omega arith; words = tt }
  pieces_fit whole at false [] room = record { few = omega arith; words = tt }
  pieces_fit whole at true (byte ∷ bytes) room =
      comment_fit (eqb byte 10) (length bytes) (pieces_from whole (suc at) false bytes) (pieces_from whole (suc at) true bytes)
      (pieces_fit whole (suc at) false bytes (omega arith)) (pieces_fit whole (suc at) true bytes (omega arith))
  pieces_fit whole at false (byte ∷ bytes) room =
      byte_fit (class_of byte bytes) whole at byte (length bytes) (goes_on bytes) (pieces_from whole (suc at) false bytes) (pieces_from whole (suc at) true bytes)
      (omega arith) (plain_byte byte bytes) (pieces_fit whole (suc at) false bytes (omega arith)) (pieces_fit whole (suc at) true bytes (omega arith))

  -- lines whose words are such
  abbrev pub AreLines : List Line → Type 0
  AreLines [] = Unit {0}
  AreLines (line ∷ lines) = AreWords line.words × AreLines lines

  pub record Lined (most : ℕ) (found : List Line) : Type 0 where
    pub few : lines_size found ≤ most
    pub words : AreLines found

  ended_lined : (words : List PlacedToken) (most : ℕ) (later : List Line) → AreWords words → Lined most later → Lined (size_of words + most) (ended words ++ later)
  ended_lined [] most later all lined = record { few = omega (arith, lined.few); words = lined.words }
  ended_lined (word ∷ words) most later all lined = record { few = omega (arith, lined.few); words = (all, lined.words) }

  lines_fit : (words : List PlacedToken) (found : List Piece) → AreWords words → AreWords (words_in found)
      → Lined (size_of words + size_of (words_in found)) (lines_from words found)
  lines_fit words [] all later =
      subst (λ (lines : List Line). Lined (size_of words + 0) lines) (none_later (ended words))
      (ended_lined words 0 [] all (record { few = omega arith; words = tt }))
  lines_fit words (Word word ∷ rest) all later =
      let next = lines_fit (words ++ word ∷ []) rest (AreWords-append words (word ∷ []) all (later.0, tt)) later.1 in
      record { few = omega (arith, next.few, size-append words (word ∷ [])); words = next.words }
  lines_fit words (LineEnd ∷ rest) all later =
      let next = lines_fit [] rest tt later in
      ended_lined words (size_of (words_in rest)) (lines_from [] rest) all (record { few = omega (arith, next.few); words = next.words })
  lines_fit words (Backslash place ∷ rest) all later = record { few = omega arith; words = (all, tt) }

-- the lines of a text
pub text-lined : (text : List ℕ) → Lined (length text) (length text) (lines text)
text-lined text =
    let fit = pieces_fit (length text) text 0 false text (omega arith) in
    let lined = lines_fit (length text) [] (pieces text) tt fit.words in
    record { few = omega (arith, lined.few, fit.few); words = lined.words }
