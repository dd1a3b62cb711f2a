-- What is read at the front of a text stands there, and what stands there is read.
use Rattle.std.proofs.Common.{◌≡◌, ℕ, ◌+◌, ◌<◌, Bool, true, false, cond, List, [], ◌∷◌, ◌++◌, length, Option, Some, None, nat_eq, refl, sym, subst, ◌∙◌, arith}
use Rattle.std.proofs.lemmas.Bool.{eqb-true, eqb-false}
use Rattle.std.specs.List.{prefix_len, list_all}
use Rattle.psl_lexer.specs.declared.kind.TokenKind.{TokenKind}
use Rattle.psl_lexer.specs.declared.front.Front.{Front}
use Rattle.psl_lexer.specs.declared.front.Front.TheVariants as fronts
use Rattle.psl_lexer.specs.Bytes.{is_white, is_solid, is_inline, begins_name, is_digit}
use Rattle.psl_lexer.specs.Spellings.{marks}
use Rattle.psl_lexer.specs.Tokens.{Lexeme, Word, StrongWord, OverlappingWord, EscapedName, Text, Digits, Sized, Mark, bytes_of, IsToken}
use Rattle.psl_lexer.specs.Gaps.{White}
use Rattle.psl_lexer.specs.Faults.{Foreign, BeginsComment}
use Rattle.psl_lexer.specs.Fronts.{Stands, Covers}
use Rattle.psl_lexer.specs.Reading.{text_of_len, text_len, comment_len, comment_of_len, escaped_front, slash_front, word_front, number_front, mark_in, front_of}
use Rattle.psl_lexer.proofs.WordReads.{word_stands, word_covers, strong_covers, overlapping_covers}
use Rattle.psl_lexer.proofs.NumberReads.{number_stands, digits_cover, sized_covers}
use Rattle.psl_lexer.proofs.TextReads.{text_stands, text_covers, slash_stands, escaped_stands, escaped_covers, solid_len}
use Rattle.psl_lexer.proofs.MarkReads.{mark_cases, mark_stands, mark_covers}

-- a token that stands at the front is what is read, or is shorter
pub front_covers : (lexeme : Lexeme) (kind : TokenKind) (after : List ℕ) → IsToken lexeme kind after → Covers (bytes_of lexeme ++ after) lexeme kind (front_of (bytes_of lexeme ++ after))
front_covers (Word word) kind after token = word_covers word after kind token
front_covers (StrongWord word) kind after token = strong_covers word after kind token
front_covers (OverlappingWord word) kind after token = overlapping_covers word after kind token
front_covers (EscapedName name white) kind after token = escaped_covers name white after kind token
front_covers (Text characters) kind after token = text_covers characters after kind token
front_covers (Digits digits) kind after token = digits_cover digits after kind token
front_covers (Sized size letter base digits) kind after token = sized_covers size digits letter base after kind token
front_covers (Mark mark) kind after token = mark_covers mark after kind token

pub covers_at : (rest : List ℕ) (lexeme : Lexeme) (kind : TokenKind) (after : List ℕ) → rest ≡ bytes_of lexeme ++ after → IsToken lexeme kind after → Covers rest lexeme kind (front_of rest)
covers_at rest lexeme kind after is token = subst (λ (t : List ℕ). Covers t lexeme kind (front_of t)) (sym is) (front_covers lexeme kind after token)

-- where a bad byte is read, no token stands
none_stands : (rest : List ℕ) (d : ℕ) → front_of rest ≡ fronts.Bad d → (lexeme : Lexeme) (kind : TokenKind) (after : List ℕ) → bytes_of lexeme ++ after ≡ rest → IsToken lexeme kind after → ⊥
none_stands rest d h lexeme kind after is token = subst (λ (f : Front). Covers rest lexeme kind f) h (covers_at rest lexeme kind after (sym is) token)

-- a bad byte that is no digit, no white space and no quote
foreign_stands : (b : ℕ) (bs : List ℕ) (d : ℕ) → front_of (b ∷ bs) ≡ fronts.Bad d → d ≡ 0 → is_white b ≡ false → is_digit b ≡ false → nat_eq b 34 ≡ false →
    (BeginsComment b bs → ⊥) → (b ≡ 92 → list_all is_solid bs ≡ true → ⊥) → Stands (b ∷ bs) (fronts.Bad d)
foreign_stands b bs d h zero white digit quote comment escape =
    (Foreign b bs, refl, (none_stands (b ∷ bs) d h, white, comment, eqb-false b 34 quote, digit, escape), zero)

not_comment : (b : ℕ) (bs : List ℕ) → nat_eq b 47 ≡ false → BeginsComment b bs → ⊥
not_comment b [] h c = c
not_comment b (c ∷ bs) h begins = eqb-false b 47 h begins.0

slash_bad : (bs : List ℕ) (d : ℕ) → slash_front bs ≡ fronts.Bad d → (d ≡ 0) × (BeginsComment 47 bs → ⊥)
unfolding slash_front
slash_bad [] d h = (cc, λ c. c)
slash_bad (c ∷ bs) d h = at (nat_eq c 47) refl (nat_eq c 42) refl h where
  len_bad : (o : Option ℕ) → comment_of_len o ≡ fronts.Bad d → ⊥
  len_bad None h = cc
  len_bad (Some n) h = cc

  at : (x : Bool) → nat_eq c 47 ≡ x → (y : Bool) → nat_eq c 42 ≡ y → cond x (fronts.Skip (prefix_len is_inline bs + 2)) (cond y (comment_of_len (comment_len false bs)) (fronts.Bad 0)) ≡ fronts.Bad d →
      (d ≡ 0) × (BeginsComment 47 (c ∷ bs) → ⊥)
  at true e y f h = cc
  at false e true f h = absurd (len_bad (comment_len false bs) h)
  at false e false f h = (cc, λ begins. eqb-false c 42 f (begins.1 (eqb-false c 47 e)))

escaped_bad : (bs : List ℕ) (d : ℕ) → escaped_front bs ≡ fronts.Bad d → (d ≡ 0) × (list_all is_solid bs ≡ true → ⊥)
unfolding escaped_front
escaped_bad bs d h = at (nat_eq (prefix_len is_solid bs) (length bs)) refl (nat_eq (prefix_len is_solid bs) 0) h where
  at : (x : Bool) → nat_eq (prefix_len is_solid bs) (length bs) ≡ x → (y : Bool) → cond x fronts.Unended (cond y (fronts.Bad 0) (fronts.Escaped (prefix_len is_solid bs + 2))) ≡ fronts.Bad d →
      (d ≡ 0) × (list_all is_solid bs ≡ true → ⊥)
  at true e y h = cc
  at false e true h = (cc, λ all. eqb-false (prefix_len is_solid bs) (length bs) e (solid_len bs all))
  at false e false h = cc

mark_bad : (rest : List ℕ) (d : ℕ) → mark_in marks rest ≡ fronts.Bad d → d ≡ 0
mark_bad rest d h = mark_cases marks rest (λ none. let e = sym none ∙ h in cc) (λ bytes kind read is kind_is. let e = sym read ∙ h in cc)

abbrev whole : (b : ℕ) (bs : List ℕ) → Bool → Bool → Bool → Bool → Bool → Bool → Front
whole b bs w n d q e s = cond w (fronts.Skip 1) (cond n (word_front (b ∷ bs)) (cond d (number_front (b ∷ bs)) (cond q (text_of_len (text_len false bs)) (cond e (escaped_front bs) (cond s (slash_front bs) (mark_in marks (b ∷ bs)))))))

-- what is read stands at the front
pub front_stands : (rest : List ℕ) → 0 < length rest → Stands rest (front_of rest)
unfolding front_of
front_stands [] some = absurd (omega (arith, some))
front_stands (b ∷ bs) some =
    white (is_white b) refl (begins_name b) refl (is_digit b) refl (nat_eq b 34) refl (nat_eq b 92) refl (nat_eq b 47) refl refl where
      white : (w : Bool) → is_white b ≡ w → (n : Bool) → begins_name b ≡ n → (d : Bool) → is_digit b ≡ d → (q : Bool) → nat_eq b 34 ≡ q → (e : Bool) → nat_eq b 92 ≡ e → (s : Bool) → nat_eq b 47 ≡ s →
          front_of (b ∷ bs) ≡ whole b bs w n d q e s → Stands (b ∷ bs) (whole b bs w n d q e s)
      white true hw n hn d hd q hq e he s hs read = (White b, bs, refl, hw, refl)
      white false hw true hn d hd q hq e he s hs read = word_stands b bs hn
      white false hw false hn true hd q hq e he s hs read = number_stands b bs hd
      white false hw false hn false hd true hq e he s hs read = subst (λ (t : ℕ). Stands (t ∷ bs) (text_of_len (text_len false bs))) (sym (eqb-true b 34 hq)) (text_stands bs)
      white false hw false hn false hd false hq true he s hs read =
          let is = sym (eqb-true b 92 he) in
          subst (λ (t : ℕ). Stands (t ∷ bs) (escaped_front bs)) is (escaped_stands bs (λ d bad.
          let parts = escaped_bad bs d bad in
          subst (λ (t : ℕ). Stands (t ∷ bs) (fronts.Bad d)) (eqb-true b 92 he)
          (foreign_stands b bs d (read ∙ bad) parts.0 hw hd hq (not_comment b bs (rw (eqb-true b 92 he) refl)) (λ same all. parts.1 all))))
      white false hw false hn false hd false hq false he true hs read =
          let is = sym (eqb-true b 47 hs) in
          subst (λ (t : ℕ). Stands (t ∷ bs) (slash_front bs)) is (slash_stands bs (λ d bad.
          let parts = slash_bad bs d bad in
          subst (λ (t : ℕ). Stands (t ∷ bs) (fronts.Bad d)) (eqb-true b 47 hs)
          (foreign_stands b bs d (read ∙ bad) parts.0 hw hd hq (subst (λ (t : ℕ). BeginsComment t bs → ⊥) is parts.1) (λ same all. eqb-false b 92 he same))))
      white false hw false hn false hd false hq false he false hs read =
          mark_stands b bs (λ d bad. foreign_stands b bs d (read ∙ bad) (mark_bad (b ∷ bs) d bad) hw hd hq (not_comment b bs hs) (λ same all. eqb-false b 92 he same))
