-- What is read at the front lies in the text, and has some bytes.
use Rattle.std.proofs.Common.{◌≡◌, ℕ, ◌<◌, ◌≤◌, List, [], ◌∷◌, ◌++◌, length, ap, length-append, arith}
use Rattle.psl_lexer.specs.declared.kind.TokenKind.{TokenKind}
use Rattle.psl_lexer.specs.declared.kind.TokenKind.TheVariants.{Name}
use Rattle.psl_lexer.specs.declared.front.Front.{Front}
use Rattle.psl_lexer.specs.declared.front.Front.TheVariants as fronts
use Rattle.psl_lexer.specs.Tokens.{Lexeme, Word, StrongWord, OverlappingWord, EscapedName, Text, Digits, Sized, Mark, bytes_of, IsToken}
use Rattle.psl_lexer.specs.Gaps.{Gap, White, LineComment, BlockComment, gap_bytes}
use Rattle.psl_lexer.specs.Faults.{BadSite, Foreign, NoBase, NoDigit, bad_bytes, bad_offset}
use Rattle.psl_lexer.specs.Fronts.{HasToken, Stands, IsFront, IsWithin}
use Rattle.psl_lexer.specs.Reading.{front_of}
use Rattle.psl_lexer.proofs.MarkReads.{mark_some}
use Rattle.psl_lexer.proofs.FrontReads.{front_stands, covers_at}

pub front_is : (rest : List ℕ) → 0 < length rest → IsFront rest (front_of rest)
front_is rest some = record { stands = front_stands rest some; covers = covers_at rest }

-- a token has a byte
pub token_some : (lexeme : Lexeme) (kind : TokenKind) (after : List ℕ) → IsToken lexeme kind after → 0 < length (bytes_of lexeme)
token_some (Word []) kind after token = elim token.0 [ ]
token_some (Word (b ∷ word)) kind after token = omega arith
token_some (StrongWord word) kind after token = omega (arith, length-append word (33 ∷ []))
token_some (OverlappingWord word) kind after token = omega (arith, length-append word (33 ∷ 95 ∷ []))
token_some (EscapedName name white) kind after token = omega arith
token_some (Text characters) kind after token = omega arith
token_some (Digits []) kind after token = elim token.0 [ ]
token_some (Digits (b ∷ digits)) kind after token = omega arith
token_some (Sized size letter base digits) kind after token = omega (arith, length-append size (39 ∷ letter ∷ digits))
token_some (Mark mark) kind after token = mark_some mark kind token

gap_some : (gap : Gap) → 0 < length (gap_bytes gap)
gap_some (White b) = omega arith
gap_some (LineComment inside) = omega arith
gap_some (BlockComment inside) = omega arith

part : (rest bytes after : List ℕ) → rest ≡ bytes ++ after → length bytes ≤ length rest
part rest bytes after is = omega (arith, ap length is, length-append bytes after)

bad_within : (site : BadSite) → bad_offset site ≤ length (bad_bytes site)
bad_within (Foreign bad behind) = omega arith
bad_within (NoBase size bad behind) = omega (arith, length-append size (39 ∷ bad ∷ behind))
bad_within (NoDigit size letter base bad behind) = omega (arith, length-append size (39 ∷ letter ∷ bad ∷ behind))

has_some : (rest : List ℕ) (lexeme : Lexeme) (kind : TokenKind) (len : ℕ) → HasToken rest lexeme kind len → (0 < len) × (len ≤ length rest)
has_some rest lexeme kind len has =
    let some = token_some lexeme kind has.after has.token in
    let within = part rest (bytes_of lexeme) has.after has.is in
    (omega (arith, some, has.len_is), omega (arith, within, has.len_is))

stands_within : (rest : List ℕ) (front : Front) → Stands rest front → IsWithin (length rest) front
stands_within rest (fronts.Skip len) h =
    let some = gap_some h.0 in
    let within = part rest (gap_bytes h.0) h.1 h.2 in
    let same = h.4 in
    (omega (arith, some, same), omega (arith, within, same))
stands_within rest (fronts.Token kind len) h = has_some rest h.0 kind len h.1
stands_within rest (fronts.Escaped len) h = (h.4, (has_some rest h.0 Name len h.1).1)
stands_within rest (fronts.Bad offset) h =
    let within = bad_within h.0 in
    let same = h.3 in
    omega (arith, within, ap length h.1, same)
stands_within rest fronts.Unended h = tt
stands_within rest (fronts.TooLarge len) h = tt

pub front_within : (rest : List ℕ) → 0 < length rest → IsWithin (length rest) (front_of rest)
front_within rest some = stands_within rest (front_of rest) (front_stands rest some)
