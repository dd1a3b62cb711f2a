-- Reading the front of a text from the left, as functions on lists. These are what private functions of
-- the code give. Lemmas tie them to the relations that the contracts of public functions speak of.
use Rattle.std.specs.Prelude.{ℕ, suc, ◌+◌, Bool, false, List, [], ◌∷◌, length, take, drop, Option, Some, None, if◌then◌else◌, not, ◌&&◌, ◌==◌, nat_eq}
use Rattle.std.specs.List.{prefix_len, starts_with}
use Rattle.std.specs.Option.{option_map}
use Rattle.psl_lexer.specs.declared.kind.TokenKind.{TokenKind}
use Rattle.psl_lexer.specs.declared.kind.TokenKind.TheVariants.{Number, Constant, Quoted}
use Rattle.psl_lexer.specs.declared.front.Front.{Front}
use Rattle.psl_lexer.specs.declared.front.Front.TheVariants as fronts
use Rattle.psl_lexer.specs.Bytes.{is_white, is_solid, is_inline, begins_name, continues_name, is_digit, continues_number, base_of, is_digit_of, continues_digits}
use Rattle.psl_lexer.specs.Spellings.{Spellings, kind_in, strong_words, overlapping_words, marks, word_kind}
use Rattle.psl_lexer.specs.Values.{value_of, is_past_number, is_past_size}

-- whether such a byte stands at the front
abbrev pub begins : (ℕ → Bool) → List ℕ → Bool
begins passes [] = false
begins passes (byte ∷ _) = passes byte

-- whether a word may take the `!` that follows
abbrev pub takes_strong : List ℕ → Bool
takes_strong [] = false
takes_strong (byte ∷ after) = (byte == 33) && not (begins (λ next. next == 61) after)

-- whether a word may take the `!_` that follows
abbrev pub takes_overlapping : List ℕ → Bool
takes_overlapping [] = false
takes_overlapping (byte ∷ []) = false
takes_overlapping (byte ∷ next ∷ after) = (byte == 33) && (next == 95) && not (begins continues_name after)

-- the keyword of a word with what it takes
abbrev pub kind_where : Bool → Spellings → List ℕ → Option TokenKind
kind_where takes rows word = if takes then kind_in rows word else None

abbrev pub longest_word : Option TokenKind → Option TokenKind → TokenKind → ℕ → Front
longest_word (Some kind) strong plain len = fronts.Token kind (len + 2)
longest_word None (Some kind) plain len = fronts.Token kind (len + 1)
longest_word None None plain len = fronts.Token plain len

-- a word before what follows
unfoldable pub word_before : List ℕ → List ℕ → Front
word_before word after =
    longest_word (kind_where (takes_overlapping after) overlapping_words word) (kind_where (takes_strong after) strong_words word) (word_kind word) (length word)

unfoldable pub word_front : List ℕ → Front
word_front rest = word_before (take (prefix_len continues_name rest) rest) (drop (prefix_len continues_name rest) rest)

-- the digits of a constant of a base
unfoldable pub digits_front : ℕ → List ℕ → List ℕ → Front
digits_front base size [] = fronts.Unended
digits_front base size (digit ∷ more) =
    if is_digit_of base digit then
    (let len = prefix_len (continues_digits base) (digit ∷ more) in
    if is_past_size (value_of 10 size) (value_of base (take len (digit ∷ more))) then fronts.TooLarge (length size + 2 + len)
    else fronts.Token Constant (length size + 2 + len))
    else fronts.Bad (length size + 2)

-- a constant behind its `'`
abbrev pub based_front : Option ℕ → List ℕ → List ℕ → Front
based_front None size more = fronts.Bad (length size + 1)
based_front (Some base) size more = digits_front base size more

unfoldable pub constant_front : List ℕ → List ℕ → Front
constant_front size [] = fronts.Unended
constant_front size (letter ∷ more) = based_front (base_of letter) size more

-- a number before what follows
unfoldable pub number_before : List ℕ → List ℕ → Front
number_before digits after =
    if begins (λ byte. byte == 39) after then constant_front digits (drop 1 after)
    else if is_past_number (value_of 10 digits) then fronts.TooLarge (length digits)
    else fronts.Token Number (length digits)

unfoldable pub number_front : List ℕ → Front
number_front rest = number_before (take (prefix_len continues_number rest) rest) (drop (prefix_len continues_number rest) rest)

-- how many bytes stand before the quote that ends a string, if one does; whether a `\` stands before
abbrev pub text_len : Bool → List ℕ → Option ℕ
text_len escaped [] = None
text_len escaped (byte ∷ bytes) =
    if byte == 10 then None
    else if escaped then option_map suc (text_len false bytes)
    else if byte == 34 then Some 0
    else option_map suc (text_len (byte == 92) bytes)

abbrev pub text_of_len : Option ℕ → Front
text_of_len None = fronts.Unended
text_of_len (Some len) = fronts.Token Quoted (len + 2)

-- how many bytes stand before the end of a comment and in it, if it ends; whether a `*` stands before
abbrev pub comment_len : Bool → List ℕ → Option ℕ
comment_len starred [] = None
comment_len starred (byte ∷ bytes) =
    if starred && (byte == 47) then Some 1
    else option_map suc (comment_len (byte == 42) bytes)

abbrev pub comment_of_len : Option ℕ → Front
comment_of_len None = fronts.Unended
comment_of_len (Some len) = fronts.Skip (len + 2)

-- what stands behind a `\`
unfoldable pub escaped_front : List ℕ → Front
escaped_front behind =
    let len = prefix_len is_solid behind in
    if nat_eq len (length behind) then fronts.Unended
    else if len == 0 then fronts.Bad 0
    else fronts.Escaped (len + 2)

-- what stands behind a `/`
unfoldable pub slash_front : List ℕ → Front
slash_front [] = fronts.Bad 0
slash_front (byte ∷ behind) =
    if byte == 47 then fronts.Skip (prefix_len is_inline behind + 2)
    else if byte == 42 then comment_of_len (comment_len false behind)
    else fronts.Bad 0

-- the first row that is spelled at the front
abbrev pub mark_in : Spellings → List ℕ → Front
mark_in [] rest = fronts.Bad 0
mark_in (row ∷ rows) rest = if starts_with nat_eq rest row.0 then fronts.Token row.1 (length row.0) else mark_in rows rest

-- what stands at the front of a text
unfoldable pub front_of : List ℕ → Front
front_of [] = fronts.Bad 0
front_of (byte ∷ behind) =
    if is_white byte then fronts.Skip 1
    else if begins_name byte then word_front (byte ∷ behind)
    else if is_digit byte then number_front (byte ∷ behind)
    else if byte == 34 then text_of_len (text_len false behind)
    else if byte == 92 then escaped_front behind
    else if byte == 47 then slash_front behind
    else mark_in marks (byte ∷ behind)
