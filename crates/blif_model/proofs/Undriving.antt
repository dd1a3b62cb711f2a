-- The first use of a name that nothing drives is the first mention of the first such name.
use Rattle.std.proofs.Common.{◌≡◌, ℕ, ◌+◌, Bool, true, false, not, ◌&&◌, ◌||◌, cond, List, [], ◌∷◌, ◌++◌, map, fold, Option, None, Some, refl, sym, ap, ◌∙◌, inl, inr}
use Rattle.std.proofs.lemmas.Bool.{cases_Bool}
use Rattle.std.proofs.lemmas.List.{map-append}
use Rattle.std.proofs.lemmas.List.Folds.{find-append, list_any-append}
use Rattle.std.proofs.lemmas.Slice.Eq.{bytes_eq-Decides}
use Rattle.std.specs.List.{find, list_any, position_from}
use Rattle.std.specs.Option.{option_map, option_or}
use Rattle.std.specs.Str.{bytes_eq}
use Rattle.psl_base.specs.Tokens.{PlacedToken}
use Rattle.blif_model.specs.Models.{Mention}
use Rattle.blif_model.specs.Names.{Named, place_of, with_mention, with_place}

-- tests of texts, of mentions and of words
abbrev pub of_mention : (List ℕ → Bool) → Mention → Bool
of_mention driven mention = not (driven mention.word.text)

abbrev pub of_word : (List ℕ → Bool) → PlacedToken → Bool
of_word driven word = not (driven word.text)

abbrev pub texts : List PlacedToken → List (List ℕ)
texts words = map (λ word. word.text) words

abbrev pub first_mention : (List ℕ → Bool) → List Mention → Option PlacedToken
first_mention driven mentions = option_map (λ mention. mention.word) (find (of_mention driven) mentions)

-- a name that is there and that nothing drives is found among the words
found-more : (b : Bool) (word : PlacedToken) (rest : Option PlacedToken) → (w : PlacedToken) × (rest ≡ Some w) → (w : PlacedToken) × (cond b (Some word) rest ≡ Some w)
found-more true word rest found = (word, refl)
found-more false word rest found = found

is-there : (driven : List ℕ → Bool) (name : List ℕ) (words : List PlacedToken) (i n : ℕ) → position_from (λ other. bytes_eq name other) i (texts words) ≡ Some n → driven name ≡ false
    → (w : PlacedToken) × (find (of_word driven) words ≡ Some w)
is-there driven name [] i n found free = cc
is-there driven name (word ∷ words) i n found free =
    elim (cases_Bool (bytes_eq name word.text)) [
      | inl same ↦
          let here : driven word.text ≡ false = ap driven (sym ((bytes_eq-Decides name word.text).0 same)) ∙ free in
          (word, rw here refl)
      | inr differ ↦
          let later : position_from (λ other. bytes_eq name other) (i + 1) (texts words) ≡ Some n =
          sym (ap (λ b. cond b (Some i) (position_from (λ other. bytes_eq name other) (i + 1) (texts words))) differ) ∙ found in
          found-more (of_word driven word) word (find (of_word driven) words) (is-there driven name words (i + 1) n later free)
    ]

or-none : (o : Option PlacedToken) → option_or o None ≡ o
or-none None = refl
or-none (Some w) = refl

or-assoc : (a b c : Option PlacedToken) → option_or (option_or a b) c ≡ option_or a (option_or b c)
or-assoc None b c = refl
or-assoc (Some w) b c = refl

one-first : (b : Bool) (mention : Mention) (rest : Option Mention) → option_or (cond b (Some mention.word) None) (option_map (λ m. m.word) rest) ≡ option_map (λ m. m.word) (cond b (Some mention) rest)
one-first true mention rest = refl
one-first false mention rest = refl

-- the first words that mention names, with one mention more
firsts-more : (driven : List ℕ → Bool) (named : Named) (mention : Mention) (place : Option ℕ) (rest : Option Mention) → named.names ≡ texts named.firsts → place_of named.names mention.word.text ≡ place
    → option_or (find (of_word driven) (with_place named mention place).firsts) (option_map (λ m. m.word) rest)
    ≡ option_or (find (of_word driven) named.firsts) (option_map (λ m. m.word) (cond (of_mention driven mention) (Some mention) rest))
firsts-more driven named mention None rest named_so at =
    ap (λ o. option_or o (option_map (λ m. m.word) rest)) (find-append (of_word driven) named.firsts (mention.word ∷ []))
    ∙ or-assoc (find (of_word driven) named.firsts) (find (of_word driven) (mention.word ∷ [])) (option_map (λ m. m.word) rest)
    ∙ ap (option_or (find (of_word driven) named.firsts)) (one-first (of_mention driven mention) mention rest)
firsts-more driven named mention (Some n) rest named_so at =
    elim (cases_Bool (driven mention.word.text)) [
      | inl drives ↦ rw drives refl
      | inr free ↦
          let found = is-there driven mention.word.text named.firsts 0 n (ap (λ names. place_of names mention.word.text) (sym named_so) ∙ at) free in
          rw (found.1) refl
    ]

texts-more : (named : Named) (mention : Mention) (place : Option ℕ) → named.names ≡ texts named.firsts → (with_place named mention place).names ≡ texts (with_place named mention place).firsts
texts-more named mention None is = ap (λ names. names ++ mention.word.text ∷ []) is ∙ sym (map-append (λ (w : PlacedToken). w.text) named.firsts (mention.word ∷ []))
texts-more named mention (Some n) is = is

pub texts-by : (named : Named) (mentions : List Mention) → named.names ≡ texts named.firsts → (fold with_mention named mentions).names ≡ texts (fold with_mention named mentions).firsts
texts-by named [] is = is
texts-by named (mention ∷ mentions) is =
    texts-by (with_mention named mention) mentions (texts-more named mention (place_of named.names mention.word.text) is)

pub firsts-by : (driven : List ℕ → Bool) (named : Named) (mentions : List Mention) → named.names ≡ texts named.firsts
    → find (of_word driven) (fold with_mention named mentions).firsts ≡ option_or (find (of_word driven) named.firsts) (first_mention driven mentions)
firsts-by driven named [] is = sym (or-none (find (of_word driven) named.firsts))
firsts-by driven named (mention ∷ mentions) is =
    let place = place_of named.names mention.word.text in
    firsts-by driven (with_mention named mention) mentions (texts-more named mention place is)
    ∙ firsts-more driven named mention place (find (of_mention driven) mentions) is refl

-- a use of a name that nothing drives is a mention of one
abbrev pub drives_in : List Mention → List ℕ → Bool
drives_in mentions text = list_any (λ m. m.drives && bytes_eq text m.word.text) mentions

or-true : (b : Bool) → (b || true) ≡ true
or-true true = refl
or-true false = refl

pub drives-here : (before rest : List Mention) (mention : Mention) → mention.drives ≡ true → drives_in (before ++ mention ∷ rest) mention.word.text ≡ true
drives-here before rest mention is =
    let text = mention.word.text in
    let same : bytes_eq text text ≡ true = (bytes_eq-Decides text text).1 refl in
    list_any-append (λ (m : Mention). m.drives && bytes_eq text m.word.text) before (mention ∷ rest)
    ∙ rw (is, same) (or-true (drives_in before text))
