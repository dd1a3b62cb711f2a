-- Strings, comments and escaped names: what is read stands there, and what stands there is read.
use Rattle.std.proofs.Common.{◌≡◌, ℕ, suc, ◌+◌, ◌-◌, ◌≤◌, Bool, true, false, ◌&&◌, cond, List, [], ◌∷◌, ◌++◌, length, take, drop, Option, Some, None, nat_eq, refl, sym, ap, subst, ◌∙◌, inr, append_assoc, length-append, arith}
use Rattle.std.proofs.lemmas.Bool.{not-false, eqb-true, eqb-false, ne_eqb, eq-eqb}
use Rattle.std.proofs.lemmas.List.{take-append-drop, take_at, take_all, append-nil, length-drop}
use Rattle.std.proofs.lemmas.List.Folds.{length-prefix_len}
use Rattle.std.proofs.lemmas.List.Sums.{prefix_len-le-length}
use Rattle.std.proofs.lemmas.Option.{same_Some}
use Rattle.std.specs.List.{prefix_len, list_all}
use Rattle.std.specs.Option.{option_map}
use Rattle.psl_lexer.specs.declared.kind.TokenKind.{TokenKind}
use Rattle.psl_lexer.specs.declared.kind.TokenKind.TheVariants.{Quoted}
use Rattle.psl_lexer.specs.declared.front.Front.TheVariants as fronts
use Rattle.psl_lexer.specs.Bytes.{is_white, is_solid, is_inline, begins_name}
use Rattle.psl_lexer.specs.Tokens.{Text, EscapedName, Character, Single, Escape, character_bytes, AreCharacters, bytes_of, IsToken, Stops}
use Rattle.psl_lexer.specs.Gaps.{LineComment, BlockComment, gap_bytes, IsGap}
use Rattle.psl_lexer.specs.Faults.{OpenText, OpenComment, OpenName, IsOpen}
use Rattle.psl_lexer.specs.Fronts.{Stands, Covers}
use Rattle.psl_lexer.specs.Reading.{text_len, text_of_len, comment_len, comment_of_len, escaped_front, slash_front, front_of}
use Rattle.psl_lexer.proofs.Runs.{front_passes, front_stops, prefix_len-front}

-- what a step of counting says
one_less : (o : Option ℕ) (n : ℕ) → option_map suc o ≡ Some n → (m : ℕ) × (o ≡ Some m) × (n ≡ suc m)
one_less None n h = cc
one_less (Some m) n h = (m, refl, sym (same_Some (suc m) n h))

cond_cases : {A P : Type 0} (b : Bool) (x y z : A) → cond b x y ≡ z → (b ≡ true → x ≡ z → P) → (b ≡ false → y ≡ z → P) → P
cond_cases true x y z h p q = p refl h
cond_cases false x y z h p q = q refl h

-- STRINGS

-- the `\` that stands before, if one does
abbrev pub backslash : Bool → List ℕ
backslash true = 92 ∷ []
backslash false = []

record Ends (escaped : Bool) (behind : List ℕ) (len : ℕ) : Type 0 where
  characters : List Character
  after : List ℕ
  is : backslash escaped ++ behind ≡ character_bytes characters ++ 34 ∷ after
  are : AreCharacters characters
  len_is : length (backslash escaped) + len ≡ length (character_bytes characters)

text_ends : (escaped : Bool) (behind : List ℕ) (len : ℕ) → text_len escaped behind ≡ Some len → Ends escaped behind len
text_ends escaped [] len h = cc
text_ends true (b ∷ bs) len h =
    cond_cases (nat_eq b 10) None (option_map suc (text_len false bs)) (Some len) h
    (λ feed none. cc)
    (λ feed some.
    let less = one_less (text_len false bs) len some in
    let more = text_ends false bs less.0 less.1 in
    record {
      characters = Escape b ∷ more.characters;
      after = more.after;
      is = ap (λ t. 92 ∷ b ∷ t) more.is;
      are = (eqb-false b 10 feed, more.are);
      len_is = omega (arith, more.len_is, less.2);
    })
text_ends false (b ∷ bs) len h =
    cond_cases (nat_eq b 10) None (cond (nat_eq b 34) (Some 0) (option_map suc (text_len (nat_eq b 92) bs))) (Some len) h
    (λ feed none. cc)
    (λ feed some. cond_cases (nat_eq b 34) (Some 0) (option_map suc (text_len (nat_eq b 92) bs)) (Some len) some
    (λ quote none. record { characters = []; after = bs; is = rw (eqb-true b 34 quote) refl; are = tt; len_is = omega (arith, same_Some 0 len none) })
    (λ quote some.
    let less = one_less (text_len (nat_eq b 92) bs) len some in
    at feed quote less.0 less.2 (nat_eq b 92) refl (text_ends (nat_eq b 92) bs less.0 less.1))) where
      at : nat_eq b 10 ≡ false → nat_eq b 34 ≡ false → (m : ℕ) → len ≡ suc m → (e : Bool) → nat_eq b 92 ≡ e → Ends e bs m → Ends false (b ∷ bs) len
      at feed quote m l true e more = record {
        characters = more.characters;
        after = more.after;
        is = rw (eqb-true b 92 e) more.is;
        are = more.are;
        len_is = omega (arith, more.len_is, l);
      }
      at feed quote m l false e more = record {
        characters = Single b ∷ more.characters;
        after = more.after;
        is = ap (λ t. b ∷ t) more.is;
        are = (eqb-false b 34 quote, eqb-false b 92 e, eqb-false b 10 feed, more.are);
        len_is = omega (arith, more.len_is, l);
      }

text_read : (characters : List Character) (after : List ℕ) → AreCharacters characters → text_len false (character_bytes characters ++ 34 ∷ after) ≡ Some (length (character_bytes characters))
text_read [] after are = refl
text_read (Single b ∷ more) after are = rw (ne_eqb b 10 are.2, ne_eqb b 34 are.0, ne_eqb b 92 are.1, text_read more after are.3) refl
text_read (Escape b ∷ more) after are = rw (ne_eqb b 10 are.0, text_read more after are.1) refl

reads_text : (behind : List ℕ) → front_of (34 ∷ behind) ≡ text_of_len (text_len false behind)
unfolding front_of begins_name
reads_text behind = refl

text_bytes_len : (characters : List Character) → length (34 ∷ (character_bytes characters ++ 34 ∷ [])) ≡ length (character_bytes characters) + 2
text_bytes_len characters = omega (arith, length-append (character_bytes characters) (34 ∷ []))

pub text_stands : (behind : List ℕ) → Stands (34 ∷ behind) (text_of_len (text_len false behind))
text_stands behind = at (text_len false behind) refl where
  at : (o : Option ℕ) → text_len false behind ≡ o → Stands (34 ∷ behind) (text_of_len o)
  at None h = (
    OpenText behind,
    refl,
    λ characters after is are.
        let read = ap (text_len false) (sym is) ∙ text_read characters after are in
        cc,
  )
  at (Some len) h =
      let ends = text_ends false behind len h in
      let whole : 34 ∷ behind ≡ (34 ∷ (character_bytes ends.characters ++ 34 ∷ [])) ++ ends.after =
      ap (λ t. 34 ∷ t) (ends.is ∙ sym (append_assoc (character_bytes ends.characters) (34 ∷ []) ends.after)) in
      let size : len + 2 ≡ length (34 ∷ (character_bytes ends.characters ++ 34 ∷ [])) = omega (arith, text_bytes_len ends.characters, ends.len_is) in (
        Text ends.characters,
        record { after = ends.after; is = whole; token = (ends.are, refl); len_is = size },
        refl,
        sym (ap (take (len + 2)) whole ∙ take_at (34 ∷ (character_bytes ends.characters ++ 34 ∷ [])) ends.after (len + 2) (sym size)),
      )

pub text_covers : (characters : List Character) (after : List ℕ) (kind : TokenKind) → IsToken (Text characters) kind after →
    Covers (bytes_of (Text characters) ++ after) (Text characters) kind (front_of (bytes_of (Text characters) ++ after))
text_covers characters after kind token =
    let read : front_of (bytes_of (Text characters) ++ after) ≡ fronts.Token Quoted (length (character_bytes characters) + 2) =
    ap (λ t. front_of (34 ∷ t)) (append_assoc (character_bytes characters) (34 ∷ []) after) ∙ reads_text (character_bytes characters ++ 34 ∷ after)
    ∙ ap text_of_len (text_read characters after token.0) in
    rw read (inr (text_bytes_len characters, token.1, refl, sym (take_at (bytes_of (Text characters)) after (length (character_bytes characters) + 2) (text_bytes_len characters))))

pub open_text_read : (behind : List ℕ) → IsOpen (OpenText behind) → front_of (34 ∷ behind) ≡ fronts.Unended
open_text_read behind open_ended = reads_text behind ∙ at (text_len false behind) refl where
  at : (o : Option ℕ) → text_len false behind ≡ o → text_of_len o ≡ fronts.Unended
  at None h = refl
  at (Some len) h = let ends = text_ends false behind len h in absurd (open_ended ends.characters ends.after (sym ends.is) ends.are)

-- COMMENTS

abbrev pub star : Bool → List ℕ
star true = 42 ∷ []
star false = []

record Closes (starred : Bool) (behind : List ℕ) (len : ℕ) : Type 0 where
  inside : List ℕ
  after : List ℕ
  is : star starred ++ behind ≡ inside ++ 42 ∷ 47 ∷ after
  len_is : length (star starred) + len ≡ length inside + 2

comment_closes : (starred : Bool) (behind : List ℕ) (len : ℕ) → comment_len starred behind ≡ Some len → Closes starred behind len
comment_closes starred [] len h = cc
comment_closes starred (b ∷ bs) len h =
    cond_cases (starred && nat_eq b 47) (Some 1) (option_map suc (comment_len (nat_eq b 42) bs)) (Some len) h
    (λ closed one. at_end starred closed (same_Some 1 len one))
    (λ closed some.
    let less = one_less (comment_len (nat_eq b 42) bs) len some in
    at starred less.0 less.2 (nat_eq b 42) refl (comment_closes (nat_eq b 42) bs less.0 less.1)) where
      at_end : (starred : Bool) → (starred && nat_eq b 47) ≡ true → 1 ≡ len → Closes starred (b ∷ bs) len
      at_end true closed one = record { inside = []; after = bs; is = rw (eqb-true b 47 closed) refl; len_is = omega (arith, one) }
      at_end false closed one = cc

      at : (starred : Bool) (m : ℕ) → len ≡ suc m → (e : Bool) → nat_eq b 42 ≡ e → Closes e bs m → Closes starred (b ∷ bs) len
      at true m l true e more = record { inside = 42 ∷ more.inside; after = more.after; is = ap (λ t. 42 ∷ t) (rw (eqb-true b 42 e) more.is); len_is = omega (arith, more.len_is, l) }
      at true m l false e more = record { inside = 42 ∷ b ∷ more.inside; after = more.after; is = ap (λ t. 42 ∷ b ∷ t) more.is; len_is = omega (arith, more.len_is, l) }
      at false m l true e more = record { inside = more.inside; after = more.after; is = rw (eqb-true b 42 e) more.is; len_is = omega (arith, more.len_is, l) }
      at false m l false e more = record { inside = b ∷ more.inside; after = more.after; is = ap (λ t. b ∷ t) more.is; len_is = omega (arith, more.len_is, l) }

starts : (starred : Bool) (after : List ℕ) → comment_len starred (42 ∷ 47 ∷ after) ≡ Some 2
starts true after = refl
starts false after = refl

comment_read : (starred : Bool) (inside after : List ℕ) → (len : ℕ) × (comment_len starred (inside ++ 42 ∷ 47 ∷ after) ≡ Some len) × (len ≤ length inside + 2)
comment_read starred [] after = (2, starts starred after, omega arith)
comment_read starred (b ∷ inside) after =
    let more = comment_read (nat_eq b 42) inside after in
    at more.0 more.1 more.2 (starred && nat_eq b 47) where
      at : (m : ℕ) → comment_len (nat_eq b 42) (inside ++ 42 ∷ 47 ∷ after) ≡ Some m → m ≤ length inside + 2 → (c : Bool) →
          (len : ℕ) × (cond c (Some 1) (option_map suc (comment_len (nat_eq b 42) (inside ++ 42 ∷ 47 ∷ after))) ≡ Some len) × (len ≤ suc (length inside) + 2)
      at m read less true = (1, refl, omega arith)
      at m read less false = (suc m, rw read refl, omega (arith, less))

comment_found : (inside after : List ℕ) → IsGap (BlockComment inside) after → comment_len false (inside ++ 42 ∷ 47 ∷ after) ≡ Some (length inside + 2)
comment_found inside after gap =
    let read = comment_read false inside after in
    let closes = comment_closes false (inside ++ 42 ∷ 47 ∷ after) read.0 read.1 in
    let least = gap closes.inside closes.after (sym closes.is) in
    let same : read.0 ≡ length inside + 2 = omega (arith, read.2, least, closes.len_is) in
    read.1 ∙ ap (λ n. Some n) same

reads_slash : (behind : List ℕ) → front_of (47 ∷ behind) ≡ slash_front behind
unfolding front_of begins_name
reads_slash behind = refl

block_len : (inside : List ℕ) → length (gap_bytes (BlockComment inside)) ≡ length inside + 4
block_len inside = omega (arith, length-append inside (42 ∷ 47 ∷ []))

block_stands : (behind : List ℕ) → Stands (47 ∷ 42 ∷ behind) (comment_of_len (comment_len false behind))
block_stands behind = at (comment_len false behind) refl where
  at : (o : Option ℕ) → comment_len false behind ≡ o → Stands (47 ∷ 42 ∷ behind) (comment_of_len o)
  at None h = (
    OpenComment behind,
    refl,
    λ inside after is.
        let read = comment_read false inside after in
        let same = ap (comment_len false) is in
        let some = read.1 in
        cc,
  )
  at (Some len) h =
      let closes = comment_closes false behind len h in (
        BlockComment closes.inside,
        closes.after,
        ap (λ t. 47 ∷ 42 ∷ t) (closes.is ∙ sym (append_assoc closes.inside (42 ∷ 47 ∷ []) closes.after)),
        (λ other rest is.
            let read = comment_read false other rest in
            let same : Some read.0 ≡ Some len = sym read.1 ∙ ap (comment_len false) (is ∙ sym closes.is) ∙ h in
            let equal = same_Some read.0 len same in
            omega (arith, read.2, equal, closes.len_is)),
        omega (arith, block_len closes.inside, closes.len_is),
      )

pub slash_stands : (behind : List ℕ) → ((d : ℕ) → slash_front behind ≡ fronts.Bad d → Stands (47 ∷ behind) (fronts.Bad d)) → Stands (47 ∷ behind) (slash_front behind)
unfolding slash_front
slash_stands [] bad = bad 0 refl
slash_stands (b ∷ behind) bad = at (nat_eq b 47) refl (nat_eq b 42) refl bad where
  at : (x : Bool) → nat_eq b 47 ≡ x → (y : Bool) → nat_eq b 42 ≡ y →
      ((d : ℕ) → cond x (fronts.Skip (prefix_len is_inline behind + 2)) (cond y (comment_of_len (comment_len false behind)) (fronts.Bad 0)) ≡ fronts.Bad d → Stands (47 ∷ b ∷ behind) (fronts.Bad d)) →
      Stands (47 ∷ b ∷ behind) (cond x (fronts.Skip (prefix_len is_inline behind + 2)) (cond y (comment_of_len (comment_len false behind)) (fronts.Bad 0)))
  at true e y f bad =
      let n = prefix_len is_inline behind in (
        LineComment (take n behind),
        drop n behind,
        rw (eqb-true b 47 e) (ap (λ t. 47 ∷ 47 ∷ t) (sym (take-append-drop n behind))),
        (front_passes is_inline behind, front_stops is_inline behind),
        omega (arith, length-prefix_len is_inline behind),
      )
  at false e true f bad = subst (λ (n : ℕ). Stands (47 ∷ n ∷ behind) (comment_of_len (comment_len false behind))) (sym (eqb-true b 42 f)) (block_stands behind)
  at false e false f bad = bad 0 refl

pub line_read : (inside after : List ℕ) → IsGap (LineComment inside) after → front_of (gap_bytes (LineComment inside) ++ after) ≡ fronts.Skip (length (gap_bytes (LineComment inside)))
unfolding slash_front
line_read inside after gap =
    reads_slash (47 ∷ (inside ++ after)) ∙ ap (λ n. fronts.Skip n) (let len = prefix_len-front is_inline inside after gap.0 gap.1 in omega (arith, len))

pub block_read : (inside after : List ℕ) → IsGap (BlockComment inside) after → front_of (gap_bytes (BlockComment inside) ++ after) ≡ fronts.Skip (length (gap_bytes (BlockComment inside)))
unfolding slash_front
block_read inside after gap =
    ap (λ t. front_of (47 ∷ 42 ∷ t)) (append_assoc inside (42 ∷ 47 ∷ []) after) ∙ reads_slash (42 ∷ (inside ++ 42 ∷ 47 ∷ after))
    ∙ ap comment_of_len (comment_found inside after gap) ∙ ap (λ n. fronts.Skip n) (let len = block_len inside in omega (arith, len))

pub open_comment_read : (behind : List ℕ) → IsOpen (OpenComment behind) → front_of (47 ∷ 42 ∷ behind) ≡ fronts.Unended
unfolding slash_front
open_comment_read behind open_ended = reads_slash (42 ∷ behind) ∙ at (comment_len false behind) refl where
  at : (o : Option ℕ) → comment_len false behind ≡ o → comment_of_len o ≡ fronts.Unended
  at None h = refl
  at (Some len) h = let closes = comment_closes false behind len h in absurd (open_ended closes.inside closes.after (sym closes.is))

-- ESCAPED NAMES

reads_escaped : (behind : List ℕ) → front_of (92 ∷ behind) ≡ escaped_front behind
unfolding front_of begins_name
reads_escaped behind = refl

no_solid : (b : ℕ) → is_solid b ≡ false → is_white b ≡ true
unfolding is_solid
no_solid b h = not-false (is_white b) h

white_no_solid : (b : ℕ) → is_white b ≡ true → is_solid b ≡ false
unfolding is_solid
white_no_solid b h = rw h refl

name_len : (name : List ℕ) (white : ℕ) → length (92 ∷ (name ++ white ∷ [])) ≡ length name + 2
name_len name white = omega (arith, length-append name (white ∷ []))

-- what an escaped name says, cut out of it
name_text : (name after : List ℕ) (white n : ℕ) → n ≡ length name → name ≡ take (n + 2 - 2) (drop 1 ((92 ∷ (name ++ white ∷ [])) ++ after))
name_text name after white n h =
    let same : length name ≡ n + 2 - 2 = omega (arith, h) in
    sym (ap (take (n + 2 - 2)) (append_assoc name (white ∷ []) after) ∙ take_at name (white ∷ after) (n + 2 - 2) same)

all_solid : (behind : List ℕ) → prefix_len is_solid behind ≡ length behind → list_all is_solid behind ≡ true
all_solid behind h = ap (list_all is_solid) (sym (take_all (prefix_len is_solid behind) behind (omega (arith, h)))) ∙ front_passes is_solid behind

not_empty : (name : List ℕ) → length name ≡ 0 → name ≡ []
not_empty [] h = refl
not_empty (x ∷ name) h = absurd (omega (arith, h))

pub escaped_stands : (behind : List ℕ) → ((d : ℕ) → escaped_front behind ≡ fronts.Bad d → Stands (92 ∷ behind) (fronts.Bad d)) → Stands (92 ∷ behind) (escaped_front behind)
unfolding escaped_front
escaped_stands behind bad = at (nat_eq (prefix_len is_solid behind) (length behind)) refl (nat_eq (prefix_len is_solid behind) 0) refl bad where
  found : (after : List ℕ) → drop (prefix_len is_solid behind) behind ≡ after → (prefix_len is_solid behind ≡ length behind → ⊥) → (prefix_len is_solid behind ≡ 0 → ⊥) → Stands (92 ∷ behind) (fronts.Escaped (prefix_len is_solid behind + 2))
  found [] e some most =
      let whole = take-append-drop (prefix_len is_solid behind) behind in
      let size = length-prefix_len is_solid behind in
      let left = length-drop (prefix_len is_solid behind) behind in
      let none = ap length e in
      let within = prefix_len-le-length is_solid behind in
      absurd (some (omega (arith, left, none, within)))
  found (white ∷ after) e some most =
      let n = prefix_len is_solid behind in
      let stops : Stops is_solid (white ∷ after) = subst (λ (t : List ℕ). Stops is_solid t) e (front_stops is_solid behind) in
      let size : length (take n behind) ≡ n = length-prefix_len is_solid behind in
      let whole : 92 ∷ behind ≡ (92 ∷ (take n behind ++ white ∷ [])) ++ after =
      ap (λ t. 92 ∷ t) (sym (take-append-drop n behind) ∙ ap (λ t. take n behind ++ t) e ∙ sym (append_assoc (take n behind) (white ∷ []) after)) in (
        EscapedName (take n behind) white,
        record {
          after = after;
          is = whole;
          token = ((λ nil. most (sym size ∙ ap length nil)), front_passes is_solid behind, no_solid white stops, refl);
          len_is = omega (arith, name_len (take n behind) white, size);
        },
        refl,
        name_text (take n behind) after white n (sym size) ∙ ap (λ t. take (n + 2 - 2) (drop 1 t)) (sym whole),
        omega arith,
      )

  at : (x : Bool) → nat_eq (prefix_len is_solid behind) (length behind) ≡ x → (y : Bool) → nat_eq (prefix_len is_solid behind) 0 ≡ y →
      ((d : ℕ) → cond x fronts.Unended (cond y (fronts.Bad 0) (fronts.Escaped (prefix_len is_solid behind + 2))) ≡ fronts.Bad d → Stands (92 ∷ behind) (fronts.Bad d)) →
      Stands (92 ∷ behind) (cond x fronts.Unended (cond y (fronts.Bad 0) (fronts.Escaped (prefix_len is_solid behind + 2))))
  at true e y f bad = (OpenName behind, refl, all_solid behind (eqb-true (prefix_len is_solid behind) (length behind) e))
  at false e true f bad = bad 0 refl
  at false e false f bad = found (drop (prefix_len is_solid behind) behind) refl (eqb-false (prefix_len is_solid behind) (length behind) e) (eqb-false (prefix_len is_solid behind) 0 f)

pub escaped_covers : (name : List ℕ) (white : ℕ) (after : List ℕ) (kind : TokenKind) → IsToken (EscapedName name white) kind after →
    Covers (bytes_of (EscapedName name white) ++ after) (EscapedName name white) kind (front_of (bytes_of (EscapedName name white) ++ after))
unfolding escaped_front
escaped_covers name white after kind token =
    let len : prefix_len is_solid (name ++ white ∷ after) ≡ length name = prefix_len-front is_solid name (white ∷ after) token.1 (white_no_solid white token.2) in
    let whole : length (name ++ white ∷ after) ≡ length name + length (white ∷ after) = length-append name (white ∷ after) in
    let some : nat_eq (length name) (length (name ++ white ∷ after)) ≡ false = ne_eqb (length name) (length (name ++ white ∷ after)) (λ e. omega (arith, e, whole)) in
    let most : nat_eq (length name) 0 ≡ false = ne_eqb (length name) 0 (λ e. token.0 (not_empty name e)) in
    let read : front_of (bytes_of (EscapedName name white) ++ after) ≡ fronts.Escaped (length name + 2) =
    ap (λ t. front_of (92 ∷ t)) (append_assoc name (white ∷ []) after) ∙ reads_escaped (name ++ white ∷ after) ∙ rw (len, some, most) refl in
    rw read (name_len name white, token.3, refl, name_text name after white (length name) refl)

-- a `\` and nothing but solid bytes
pub solid_len : (behind : List ℕ) → list_all is_solid behind ≡ true → prefix_len is_solid behind ≡ length behind
solid_len behind h = ap (prefix_len is_solid) (sym (append-nil behind)) ∙ prefix_len-front is_solid behind [] h tt

pub open_name_read : (behind : List ℕ) → IsOpen (OpenName behind) → front_of (92 ∷ behind) ≡ fronts.Unended
unfolding escaped_front
open_name_read behind h = reads_escaped behind ∙ rw (solid_len behind h, eq-eqb (length behind) (length behind) refl) refl
