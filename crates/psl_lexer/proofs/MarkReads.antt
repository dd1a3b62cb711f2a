-- Punctuation: the longest that stands at the front is read.
use Rattle.std.proofs.Common.{◌≡◌, ℕ, ◌<◌, ◌≤◌, Bool, true, false, not, ◌&&◌, ◌||◌, cond, List, [], ◌∷◌, ◌++◌, length, take, drop, Some, nat_eq, nat_le, refl, sym, ap, subst, ◌∙◌, inl, inr, ⊎_elim, arith}
use Rattle.std.proofs.lemmas.Bool.{cases_order, leb-true, not-true, or_parts}
use Rattle.std.proofs.lemmas.List.{take-append-drop, take_at}
use Rattle.std.proofs.lemmas.Option.{same_Some}
use Rattle.std.proofs.lemmas.Slice.Eq.{bytes_eq-Decides}
use Rattle.std.specs.List.{starts_with}
use Rattle.std.specs.Str.{bytes_eq}
use Rattle.psl_lexer.specs.declared.kind.TokenKind.{TokenKind}
use Rattle.psl_lexer.specs.declared.front.Front.{Front}
use Rattle.psl_lexer.specs.declared.front.Front.TheVariants as fronts
use Rattle.psl_lexer.specs.Bytes.{is_white, begins_name, is_digit}
use Rattle.psl_lexer.specs.Spellings.{Spellings, kind_in, marks}
use Rattle.psl_lexer.specs.Tokens.{Mark, IsToken}
use Rattle.psl_lexer.specs.Fronts.{Stands, Covers}
use Rattle.psl_lexer.specs.Reading.{mark_in, front_of}
use Rattle.psl_lexer.proofs.Runs.{both_pass}

-- a row that is spelled at the front
starts_is : (rest needle : List ℕ) → starts_with nat_eq rest needle ≡ true → needle ≡ take (length needle) rest
starts_is rest needle h = (bytes_eq-Decides needle (take (length needle) rest)).0 h

starts_at : (needle after : List ℕ) → starts_with nat_eq (needle ++ after) needle ≡ true
starts_at needle after = (bytes_eq-Decides needle (take (length needle) (needle ++ after))).1 (sym (take_at needle after (length needle) refl))

equal_is : (x y : List ℕ) → bytes_eq x y ≡ true → x ≡ y
equal_is x y h = (bytes_eq-Decides x y).0 h

equal_at : (x : List ℕ) → bytes_eq x x ≡ true
equal_at x = (bytes_eq-Decides x x).1 refl

-- a row before which none is spelled like it
record Found (rows : Spellings) (rest bytes : List ℕ) (kind : TokenKind) : Type 0 where
  starts : bytes ≡ take (length bytes) rest
  kind_is : kind_in rows bytes ≡ Some kind

unmatched : (row bytes rest : List ℕ) → bytes ≡ take (length bytes) rest → starts_with nat_eq rest row ≡ false → bytes_eq row bytes ≡ false
unmatched row bytes rest is h = at (bytes_eq row bytes) refl where
  at : (b : Bool) → bytes_eq row bytes ≡ b → b ≡ false
  at false e = refl
  at true e =
      let same = equal_is row bytes e in
      let yes : starts_with nat_eq rest row ≡ true = subst (λ (t : List ℕ). starts_with nat_eq rest t ≡ true) (sym same) ((bytes_eq-Decides bytes (take (length bytes) rest)).1 is) in
      cc

pub mark_cases : {P : Type 0} (rows : Spellings) (rest : List ℕ) → (mark_in rows rest ≡ fronts.Bad 0 → P) →
    ((bytes : List ℕ) (kind : TokenKind) → mark_in rows rest ≡ fronts.Token kind (length bytes) → bytes ≡ take (length bytes) rest → kind_in rows bytes ≡ Some kind → P) → P
mark_cases [] rest none found = none refl
mark_cases {P = P} (row ∷ rows) rest none found = at (λ none found. mark_cases {P = P} rows rest none found) (starts_with nat_eq rest row.0) refl none found where
  at : ((mark_in rows rest ≡ fronts.Bad 0 → P) → ((bytes : List ℕ) (kind : TokenKind) → mark_in rows rest ≡ fronts.Token kind (length bytes) → bytes ≡ take (length bytes) rest → kind_in rows bytes ≡ Some kind → P) → P) →
      (b : Bool) → starts_with nat_eq rest row.0 ≡ b → (cond b (fronts.Token row.1 (length row.0)) (mark_in rows rest) ≡ fronts.Bad 0 → P) →
      ((bytes : List ℕ) (kind : TokenKind) → cond b (fronts.Token row.1 (length row.0)) (mark_in rows rest) ≡ fronts.Token kind (length bytes) → bytes ≡ take (length bytes) rest → cond (bytes_eq row.0 bytes) (Some row.1) (kind_in rows bytes) ≡ Some kind → P) → P
  at more true h none found = found row.0 row.1 refl (starts_is rest row.0 h) (rw (equal_at row.0) refl)
  at more false h none found = more none (λ bytes kind read is kind_is. found bytes kind read is (rw (unmatched row.0 bytes rest is h) kind_is))

pub mark_stands : (b : ℕ) (bs : List ℕ) → ((d : ℕ) → mark_in marks (b ∷ bs) ≡ fronts.Bad d → Stands (b ∷ bs) (fronts.Bad d)) → Stands (b ∷ bs) (mark_in marks (b ∷ bs))
mark_stands b bs bad =
    mark_cases marks (b ∷ bs)
    (λ none. subst (λ (f : Front). Stands (b ∷ bs) f) (sym none) (bad 0 none))
    (λ bytes kind read is kind_is. subst (λ (f : Front). Stands (b ∷ bs) f) (sym read) (
      Mark bytes,
      record { after = drop (length bytes) (b ∷ bs); is = sym (take-append-drop (length bytes) (b ∷ bs)) ∙ ap (λ t. t ++ drop (length bytes) (b ∷ bs)) (sym is); token = kind_is; len_is = refl },
      refl,
      is,
    ))

-- the rows go from the longest to the shortest
abbrev none_longer : ℕ → Spellings → Bool
none_longer len [] = true
none_longer len (row ∷ rows) = nat_le (length row.0) len && none_longer len rows

abbrev fall : Spellings → Bool
fall [] = true
fall (row ∷ rows) = none_longer (length row.0) rows && fall rows

listed_shorter : (rows : Spellings) (bytes : List ℕ) (kind : TokenKind) (len : ℕ) → none_longer len rows ≡ true → kind_in rows bytes ≡ Some kind → length bytes ≤ len
listed_shorter [] bytes kind len h e = cc
listed_shorter (row ∷ rows) bytes kind len h e =
    let each = both_pass (nat_le (length row.0) len) (none_longer len rows) h in
    at (listed_shorter rows bytes kind len each.1) each.0 (bytes_eq row.0 bytes) refl e where
      at : (kind_in rows bytes ≡ Some kind → length bytes ≤ len) → nat_le (length row.0) len ≡ true → (b : Bool) → bytes_eq row.0 bytes ≡ b → cond b (Some row.1) (kind_in rows bytes) ≡ Some kind → length bytes ≤ len
      at more short true same e = subst (λ (t : List ℕ). length t ≤ len) (equal_is row.0 bytes same) (leb-true (length row.0) len short)
      at more short false other e = more e

pub marks_cover : (rows : Spellings) (bytes after : List ℕ) (kind : TokenKind) → fall rows ≡ true → kind_in rows bytes ≡ Some kind → Covers (bytes ++ after) (Mark bytes) kind (mark_in rows (bytes ++ after))
marks_cover [] bytes after kind h e = cc
marks_cover (row ∷ rows) bytes after kind h e =
    let each = both_pass (none_longer (length row.0) rows) (fall rows) h in
    at (marks_cover rows bytes after kind each.1) each.0 (starts_with nat_eq (bytes ++ after) row.0) refl where
      unlike : length bytes ≡ length row.0 → starts_with nat_eq (bytes ++ after) row.0 ≡ true → bytes_eq row.0 bytes ≡ false → ⊥
      unlike same starts other =
          let is : row.0 ≡ bytes = starts_is (bytes ++ after) row.0 starts ∙ take_at bytes after (length row.0) same in
          let yes : bytes_eq row.0 bytes ≡ true = (bytes_eq-Decides row.0 bytes).1 is in
          cc

      first : none_longer (length row.0) rows ≡ true → starts_with nat_eq (bytes ++ after) row.0 ≡ true → (b : Bool) → bytes_eq row.0 bytes ≡ b → cond b (Some row.1) (kind_in rows bytes) ≡ Some kind →
          Covers (bytes ++ after) (Mark bytes) kind (fronts.Token row.1 (length row.0))
      first short starts true same e =
          let is = equal_is row.0 bytes same in
          inr (ap length (sym is), sym (same_Some row.1 kind e), refl, sym (ap (λ t. take (length t) (bytes ++ after)) is ∙ take_at bytes after (length bytes) refl))
      first short starts false other e =
          let less = listed_shorter rows bytes kind (length row.0) short e in
          inl (⊎_elim (λ same. absurd (unlike same starts other)) (λ o. ⊎_elim (λ lt. lt) (λ gt. absurd (omega (arith, less, gt))) o) (cases_order (length bytes) (length row.0)))

      at : (kind_in rows bytes ≡ Some kind → Covers (bytes ++ after) (Mark bytes) kind (mark_in rows (bytes ++ after))) → none_longer (length row.0) rows ≡ true →
          (b : Bool) → starts_with nat_eq (bytes ++ after) row.0 ≡ b → Covers (bytes ++ after) (Mark bytes) kind (cond b (fronts.Token row.1 (length row.0)) (mark_in rows (bytes ++ after)))
      at more short true starts = first short starts (bytes_eq row.0 bytes) refl e
      at more short false starts =
          let other : bytes_eq row.0 bytes ≡ false = unmatched row.0 bytes (bytes ++ after) (sym (take_at bytes after (length bytes) refl)) starts in
          more (sym (rw other refl) ∙ e)

-- what punctuation may begin with
abbrev pub begins_mark : List ℕ → Bool
begins_mark [] = false
begins_mark (b ∷ _) = not (is_white b || begins_name b || is_digit b || nat_eq b 34 || nat_eq b 92 || nat_eq b 47)

abbrev all_begin : Spellings → Bool
all_begin [] = true
all_begin (row ∷ rows) = begins_mark row.0 && all_begin rows

listed_begins : (rows : Spellings) (bytes : List ℕ) (kind : TokenKind) → all_begin rows ≡ true → kind_in rows bytes ≡ Some kind → begins_mark bytes ≡ true
listed_begins [] bytes kind h e = cc
listed_begins (row ∷ rows) bytes kind h e =
    let each = both_pass (begins_mark row.0) (all_begin rows) h in
    at (listed_begins rows bytes kind each.1) each.0 (bytes_eq row.0 bytes) refl e where
      at : (kind_in rows bytes ≡ Some kind → begins_mark bytes ≡ true) → begins_mark row.0 ≡ true → (b : Bool) → bytes_eq row.0 bytes ≡ b → cond b (Some row.1) (kind_in rows bytes) ≡ Some kind → begins_mark bytes ≡ true
      at more first true same e = subst (λ (t : List ℕ). begins_mark t ≡ true) (equal_is row.0 bytes same) first
      at more first false other e = more e

marks_begin : all_begin marks ≡ true
unfolding marks begins_name
marks_begin = refl

marks_fall : fall marks ≡ true
unfolding marks
marks_fall = refl

reads_mark : (bytes after : List ℕ) → begins_mark bytes ≡ true → front_of (bytes ++ after) ≡ mark_in marks (bytes ++ after)
unfolding front_of
reads_mark [] after h = cc
reads_mark (b ∷ bytes) after h =
    let five = or_parts (is_white b || begins_name b || is_digit b || nat_eq b 34 || nat_eq b 92) (nat_eq b 47) (not-true (is_white b || begins_name b || is_digit b || nat_eq b 34 || nat_eq b 92 || nat_eq b 47) h) in
    let four = or_parts (is_white b || begins_name b || is_digit b || nat_eq b 34) (nat_eq b 92) five.0 in
    let three = or_parts (is_white b || begins_name b || is_digit b) (nat_eq b 34) four.0 in
    let two = or_parts (is_white b || begins_name b) (is_digit b) three.0 in
    let one = or_parts (is_white b) (begins_name b) two.0 in
    rw (one.0, one.1, two.1, three.1, four.1, five.1) refl

pub mark_covers : (bytes after : List ℕ) (kind : TokenKind) → IsToken (Mark bytes) kind after → Covers (bytes ++ after) (Mark bytes) kind (front_of (bytes ++ after))
mark_covers bytes after kind token =
    rw (reads_mark bytes after (listed_begins marks bytes kind marks_begin token)) (marks_cover marks bytes after kind marks_fall token)

-- punctuation has a byte
begins_some : (bytes : List ℕ) → begins_mark bytes ≡ true → 0 < length bytes
begins_some [] h = cc
begins_some (b ∷ bytes) h = omega arith

pub mark_some : (bytes : List ℕ) (kind : TokenKind) → kind_in marks bytes ≡ Some kind → 0 < length bytes
mark_some bytes kind h = begins_some bytes (listed_begins marks bytes kind marks_begin h)
