-- The names of the flat netlist have bytes, and none of white space.
use Rattle.std.proofs.Common.{◌≡◌, ℕ, zero, suc, ◌+◌, ◌<◌, ◌≤◌, ◌/◌, ◌%◌, inl, inr, Bool, true, false, cond, ◌&&◌, ◌||◌, ltb, leb, eqb, List, [], ◌∷◌, ◌++◌, length, map, take, drop, All, Option, None, Some, refl, sym, ap, ◌∙◌, subst, ⊎_elim, arith, length-drop}
use Rattle.std.proofs.lemmas.Bool.{cases_Bool, eqb-true, leb-true, lt-ltb, ltb-true}
use Rattle.std.proofs.lemmas.List.Elements.{All-nil, All-cons, All-append, All-drop}
use Rattle.std.specs.Fmt.{decimal, digits, digits_onto, digit_glyph}
use Rattle.std.specs.List.{flat_map, position}
use Rattle.psl_base.specs.Bytes.{is_white}
use Rattle.psl_base.specs.Tokens.{PlacedToken}
use Rattle.blif_flattening.specs.Hierarchy.{Path, model_at, owner}
use Rattle.blif_flattening.specs.Listing.{instances}
use Rattle.blif_flattening.specs.Members.{Among}
use Rattle.blif_flattening.specs.Numbers.{is_among, signals}
use Rattle.blif_flattening.proofs.Members.{Among-flat_map, from_flat_map}
use Rattle.blif_model.specs.Files.{Part, Placing}
use Rattle.blif_model.specs.Models.{Mention, Model}
use Rattle.blif_model.proofs.Held.{ArePlaced, PartHolds, PartsHold}
use Rattle.blif_model.proofs.Holding.{AreNamed}
use Rattle.blif_model.proofs.Texts.{AreWords, IsWord}
use Rattle.blif_linking.specs.declared.role.Role.{Role}
use Rattle.blif_linking.specs.declared.role.Role.TheVariants.{Input, Output, Clock}
use Rattle.blif_linking.specs.Interfaces.{role_of}
use Rattle.blif_linking.specs.Linked.{linked_texts}
use Rattle.blif_linking.specs.Links.{Link, connections_in, link_at, link_of}
use Rattle.blif_linking.specs.Names.{Entry, Parts, actual_at, entries_of, mention_by_role, mention_linked, mentions_by, mentions_entered, mentions_in, mentions_placed, mentions_said, names_in, placed}
use Rattle.blif_flat.specs.Flat.{Models, flat_names, full_text, names_from, signal_of, texts_at}
use Rattle.blif_flat.specs.Lines.{mentions_of}
use Rattle.blif_laws.specs.Plain.{IsPlain}
use Rattle.blif_laws.proofs.Entries.{entry-of}
use Rattle.blif_laws.proofs.Numbers.{names-from}
use Rattle.blif_laws.proofs.Saying.{all-said}

abbrev IsVisible : ℕ → Type 0
IsVisible byte = is_white byte ≡ false

abbrev pub IsPlainText : List ℕ → Type 0
IsPlainText text = (0 < length text) × All IsVisible text

-- bytes behind the blank are no white space
visible : (byte : ℕ) → 33 ≤ byte → IsVisible byte
visible byte past =
    elim (cases_Bool (leb byte 13)) [
      | inl low ↦ absurd (let le = leb-true byte 13 low in omega (arith, le))
      | inr high ↦
          elim (cases_Bool (eqb byte 32)) [
            | inl blank ↦ absurd (let is = eqb-true byte 32 blank in omega (arith, is))
            | inr other ↦ rw (high, other) (neither (leb 9 byte))
          ]
    ]
  where
    neither : (b : Bool) → (b && false || false) ≡ false
    neither true = refl
    neither false = refl

-- the digits of a number
glyph : (d : ℕ) → d < 10 → 33 ≤ digit_glyph false d
glyph d lt = rw (lt-ltb d 10 lt) (omega arith)

digits-visible : (k n : ℕ) (acc : List ℕ) → All IsVisible acc → All IsVisible (digits_onto k 10 false n acc)
digits-visible zero n acc all = all
digits-visible (suc k) n acc all =
    let small : n % 10 < 10 = omega arith in
    let more : All IsVisible (digit_glyph false (n % 10) ∷ acc) =
    All-cons IsVisible (digit_glyph false (n % 10)) acc (visible (digit_glyph false (n % 10)) (glyph (n % 10) small)) all in
    by_last (eqb (n / 10) 0) more (digits-visible k (n / 10) (digit_glyph false (n % 10) ∷ acc) more)
  where
    by_last : (last : Bool) → All IsVisible (digit_glyph false (n % 10) ∷ acc) → All IsVisible (digits_onto k 10 false (n / 10) (digit_glyph false (n % 10) ∷ acc))
        → All IsVisible (cond last (digit_glyph false (n % 10) ∷ acc) (digits_onto k 10 false (n / 10) (digit_glyph false (n % 10) ∷ acc)))
    by_last true here later = here
    by_last false here later = later

decimal-visible : (n : ℕ) → All IsVisible (decimal n)
unfolding digits
decimal-visible n = digits-visible 64 n [] (All-nil IsVisible)

-- a name with its instance before it
full-plain : (path : Path) (text : List ℕ) → IsPlainText text → IsPlainText (full_text path text)
full-plain [] text plain = plain
full-plain (k ∷ path) text plain =
    full-plain path (117 ∷ decimal (k + 1) ++ 46 ∷ text) (
      omega arith,
      All-cons IsVisible 117 (decimal (k + 1) ++ 46 ∷ text) refl
          (All-append IsVisible (decimal (k + 1)) (46 ∷ text) (decimal-visible (k + 1)) (All-cons IsVisible 46 text refl plain.1)),
    )

-- the names of an instance, where all texts are plain
names-plain : (models : Models) (path : Path) (name : ℕ) (texts : List (List ℕ)) → ((text : List ℕ) → Among text texts → IsPlainText text)
    → All IsPlain (names_from models path name texts)
names-plain models path name [] all = All-nil IsPlain
names-plain models path name (text ∷ texts) all =
    by_signal (is_among (signals mentions_of models) (owner models path name)) (full-plain path text (all text (inl refl)))
    (names-plain models path (suc name) texts (λ other there. all other (inr there)))
  where
    by_signal : (is : Bool) → IsPlainText (full_text path text) → All IsPlain (names_from models path (suc name) texts)
        → All IsPlain (cond is (record { text = full_text path text; signal = signal_of models path name; left = 0; right = 0 } ∷ names_from models path (suc name) texts)
        (names_from models path (suc name) texts))
    by_signal true plain rest = All-cons IsPlain _ (names_from models path (suc name) texts) (record { some = plain.0; plain = plain.1 }) rest
    by_signal false plain rest = rest

pub all-flat : {X Y : Type 0} (P : Y → Type 0) (f : X → List Y) (xs : List X) → ((x : X) → Among x xs → All P (f x)) → All P (flat_map f xs)
all-flat P f [] each = All-nil P
all-flat P f (x ∷ xs) each = All-append P (f x) (flat_map f xs) (each x (inl refl)) (all-flat P f xs (λ y there. each y (inr there)))

-- the actual of a plain word
actual-plain : (text : List ℕ) (link : Link) → link_of text ≡ Some link → IsPlainText text → IsPlainText link.actual
actual-plain text link is plain = by_place (position (λ byte. eqb byte 61) text) is
  where
    by_tests : (place : ℕ) (first second : Bool) → ltb (place + 1) (length text) ≡ second
        → cond (first && second) (Some (record { formal = take place text; actual = drop (place + 1) text })) None ≡ Some link → IsPlainText link.actual
    by_tests place true true within found =
        let same : ◌≡◌ {A = Link} (record { formal = take place text; actual = drop (place + 1) text }) link = cc in
        let lt = ltb-true (place + 1) (length text) within in
        subst (λ (l : Link). IsPlainText l.actual) same (
          omega (arith, lt, length-drop (place + 1) text),
          All-drop IsVisible (place + 1) text plain.1,
        )
    by_tests place true false within found = cc
    by_tests place false second within found = cc

    by_place : (place : Option ℕ) → link_at text place ≡ Some link → IsPlainText link.actual
    by_place None found = cc
    by_place (Some place) found = by_tests place (ltb 0 place) (ltb (place + 1) (length text)) refl found

-- words of a text are plain
word-plain : (size : ℕ) (word : PlacedToken) → IsWord size word → IsPlainText word.text
word-plain size word is = (is.some, is.plain)

pub named-at : (size : ℕ) (mentions : List Mention) (mention : Mention) → AreNamed size mentions → Among mention mentions → IsWord size mention.word
named-at size [] mention all none = absurd none
named-at size (first ∷ mentions) mention all (inl here) = subst (λ (m : Mention). IsWord size m.word) here all.0
named-at size (first ∷ mentions) mention all (inr there) = named-at size mentions mention all.1 there

word-at : (size : ℕ) (words : List PlacedToken) (word : PlacedToken) → AreWords size words → Among word words → IsWord size word
word-at size [] word all none = absurd none
word-at size (first ∷ words) word all (inl here) = subst (IsWord size) here all.0
word-at size (first ∷ words) word all (inr there) = word-at size words word all.1 there

placed-at : (size : ℕ) (placings : List Placing) (placing : Placing) → ArePlaced size placings → Among placing placings → AreWords size placing.words
placed-at size [] placing all none = absurd none
placed-at size (first ∷ placings) placing all (inl here) = subst (λ (p : Placing). AreWords size p.words) here all.0.1
placed-at size (first ∷ placings) placing all (inr there) = placed-at size placings placing all.1 there

connections-words : (size : ℕ) (words : List PlacedToken) → AreWords size words → AreWords size (connections_in words)
connections-words size [] all = tt
connections-words size (title ∷ words) all = all.1

-- what a placement mentions
by_role : (word : PlacedToken) (link : Link) (mention : Mention) (role : Option Role) → Among mention (mention_by_role (actual_at word link) role) → link.actual ≡ mention.word.text
by_role word link mention None none = absurd none
by_role word link mention (Some Clock) none = absurd none
by_role word link mention (Some Input) (inl here) = ap (λ (m : Mention). m.word.text) here
by_role word link mention (Some Input) (inr none) = absurd none
by_role word link mention (Some Output) (inl here) = ap (λ (m : Mention). m.word.text) here
by_role word link mention (Some Output) (inr none) = absurd none

by_link : (model : Part Model) (word : PlacedToken) (mention : Mention) (found : Option Link) → link_of word.text ≡ found → IsPlainText word.text
    → Among mention (mention_linked model word found) → IsPlainText mention.word.text
by_link model word mention None is plain none = absurd none
by_link model word mention (Some link) is plain there =
    subst IsPlainText (by_role word link mention (role_of model link.formal) there) (actual-plain word.text link is plain)

by_model : (size : ℕ) (model : Option (Part Model)) (words : List PlacedToken) (mention : Mention) → AreWords size words → Among mention (mentions_by model words)
    → IsPlainText mention.word.text
by_model size None words mention all none = absurd none
by_model size (Some model) words mention all there =
    let by = from_flat_map (λ (word : PlacedToken). mention_linked model word (link_of word.text)) mention words there in
    by_link model by.0 mention (link_of by.0.text) refl (word-plain size by.0 (word-at size words by.0 all by.1)) by.2

module _ (parts : Parts) (size most : ℕ) where
  part-plain : (part : Part Model) → PartHolds size part most → (text : List ℕ) → Among text (names_in parts part) → IsPlainText text
  part-plain part holds text there =
      let some = names-from (mentions_in parts part) text there in
      let entry = from_flat_map (mentions_entered parts) some.0 (entries_of part) some.1 in
      subst IsPlainText some.2
      (⊎_elim
      (λ says.
      let said : Among some.0 (mentions_said says.0) = subst (λ (e : Entry). Among some.0 (mentions_entered parts e)) (sym says.2) entry.2 in
      let own : Among some.0 part.own.mentions =
      subst (λ (mentions : List Mention). Among some.0 mentions) (sym (holds.own.mentions ∙ all-said part.own.statements))
      (Among-flat_map mentions_said says.0 some.0 part.own.statements says.1 said) in
      word-plain size some.0.word (named-at size part.own.mentions some.0 holds.own.named own))
      (λ places.
      let mentioned : Among some.0 (mentions_placed parts places.0) = subst (λ (e : Entry). Among some.0 (mentions_entered parts e)) (sym places.2) entry.2 in
      by_model size (placed parts places.0) (connections_in places.0.words) some.0
      (connections-words size places.0.words (placed-at size part.placings places.0 holds.placed places.1)) mentioned)
      (entry-of 0 part.own.statements part.placings entry.0 entry.1))

  texts-plain : (some : Parts) (m : ℕ) → PartsHold size some most → (text : List ℕ) → Among text (texts_at (map (names_in parts) some) m) → IsPlainText text
  texts-plain [] m all text none = absurd none
  texts-plain (first ∷ some) zero all text there = part-plain first all.0 text there
  texts-plain (first ∷ some) (suc m) all text there = texts-plain some m all.1 text there

  pub names-visible : PartsHold size parts most → (models : Models) → All IsPlain (flat_names models (linked_texts parts))
  names-visible all models =
      all-flat IsPlain (λ path. names_from models path 0 (texts_at (linked_texts parts) (model_at models path))) (instances models)
      (λ path there. names-plain models path 0 (texts_at (linked_texts parts) (model_at models path)) (texts-plain parts (model_at models path) all))
