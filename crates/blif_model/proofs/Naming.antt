-- The names that are kept say of each mention what the mentions before it say.
use Rattle.std.proofs.Common.{◌≡◌, ℕ, suc, ◌+◌, ◌<◌, ◌≤◌, Bool, true, false, not, ◌&&◌, ◌||◌, cond, List, [], ◌∷◌, ◌++◌, length, get_or, fold, Option, None, Some, is_none, refl, sym, ap, ◌∙◌, inl, inr, arith, length-append, length-set, subst, ◌≢◌, ◌-◌}
use Rattle.std.proofs.lemmas.Bool.{cases_Bool, false≢true}
use Rattle.std.proofs.lemmas.List.{append-nil, append_assoc, get_or-set_same, get_or-set_other, get_or_append_left, get_or_push}
use Rattle.std.proofs.lemmas.List.Sums.{fold-append}
use Rattle.std.proofs.lemmas.Slice.Eq.{bytes_eq-Decides}
use Rattle.std.specs.List.{list_any, position_from}
use Rattle.std.specs.Str.{bytes_eq}
use Rattle.psl_base.specs.Tokens.{PlacedToken}
use Rattle.blif_model.specs.Models.{Mention, is_of, is_mentioned, is_driven, names_of, with_name}
use Rattle.blif_model.specs.Names.{Named, names_fault_in, with_mentions, nothing_named, named_by, place_of, with_mention, with_place, rule_of, rule_at}
use Rattle.std.specs.Prelude.{nat_le}
use Rattle.blif_model.specs.declared.fault.BlifFault.TheVariants.{DrivenTwice, TooLarge}
use Rattle.blif_model.specs.Rules.{name_rule, names_fault, signal_limit}
use Rattle.blif_model.proofs.Places.{bytes_eq-sym, place_of-push, place_of-within}

-- some text passes where the first one that does has a place
any-position : (test : List ℕ → Bool) (i : ℕ) (xs : List (List ℕ)) → list_any test xs ≡ not (is_none (position_from test i xs))
any-position test i [] = refl
any-position test i (x ∷ xs) = elim (test x) as (λ b. (b || list_any test xs) ≡ not (is_none (cond b (Some i) (position_from test (i + 1) xs)))) [ true ↦ refl | false ↦ any-position test (i + 1) xs ]

any-push : (p : Mention → Bool) (mentions : List Mention) (mention : Mention) → list_any p (mentions ++ mention ∷ []) ≡ (list_any p mentions || p mention)
any-push p [] mention = elim (p mention) as (λ b. (b || false) ≡ (false || b)) [ true ↦ refl | false ↦ refl ]
any-push p (m ∷ mentions) mention = elim (p m) as (λ b. (b || list_any p (mentions ++ mention ∷ [])) ≡ ((b || list_any p mentions) || p mention)) [ true ↦ refl | false ↦ any-push p mentions mention ]

or-false : (b : Bool) → (b || false) ≡ b
or-false true = refl
or-false false = refl

-- whether the name of a number is driven
abbrev pub driven_at : Named → Option ℕ → Bool
driven_at named None = false
driven_at named (Some number) = get_or named.driven number false

-- what is kept says what the mentions say
pub record Tracks (mentions : List Mention) (named : Named) : Type 0 where
  pub names : names_of mentions ≡ named.names
  pub sized : length named.driven ≡ length named.names
  pub mentioned : (word : PlacedToken) → is_mentioned mentions word ≡ not (is_none (place_of named.names word.text))
  pub driven : (word : PlacedToken) → is_driven mentions word ≡ driven_at named (place_of named.names word.text)

-- the rule of a mention, by what is kept
by-found : (limit twice drives : Bool) (named : Named) (place : Option ℕ) → limit ≡ nat_le signal_limit (length named.names) → twice ≡ driven_at named place
    → cond (drives && twice) (Some DrivenTwice) (cond (not (not (is_none place)) && limit) (Some TooLarge) None) ≡ rule_at named drives place
by-found limit twice true named None at is = rw (is, at) refl
by-found limit twice false named None at is = rw at refl
by-found limit twice drives named (Some number) at is = rw is refl

rule-same : (before : List Mention) (named : Named) (mention : Mention) → Tracks before named → name_rule before mention ≡ rule_of named mention
rule-same before named mention tracks =
    rw (tracks.mentioned mention.word)
    (by-found (nat_le signal_limit (length (names_of before))) (is_driven before mention.word) mention.drives named (place_of named.names mention.word.text)
    (ap (λ names. nat_le signal_limit (length names)) tracks.names) (tracks.driven mention.word))

-- one mention more: its name is kept
names-by : (named : Named) (mention : Mention) (any : Bool) (place : Option ℕ) → any ≡ not (is_none place)
    → cond any named.names (named.names ++ mention.word.text ∷ []) ≡ (with_place named mention place).names
names-by named mention any None is = rw is refl
names-by named mention any (Some number) is = rw is refl

names-more : (before : List Mention) (named : Named) (mention : Mention) → Tracks before named
    → names_of (before ++ mention ∷ []) ≡ (with_mention named mention).names
names-more before named mention tracks =
    let name = mention.word.text in
    fold-append (λ names m. with_name names m.word.text) [] before (mention ∷ [])
    ∙ ap (λ names. with_name names name) tracks.names
    ∙ names-by named mention (list_any (bytes_eq name) named.names) (place_of named.names name) (any-position (bytes_eq name) 0 named.names)

-- the text that has a place is there
pub place_of-at : (i n : ℕ) (names : List (List ℕ)) (name : List ℕ) → position_from (λ other. bytes_eq name other) i names ≡ Some n → (i ≤ n) × (get_or names (n - i) [] ≡ name)
place_of-at i n [] name found = cc
place_of-at i n (x ∷ xs) name found =
    elim (cases_Bool (bytes_eq name x)) [
      | inl same ↦
          let here : Some i ≡ Some n = sym (ap (λ b. cond b (Some i) (position_from (λ other. bytes_eq name other) (i + 1) xs)) same) ∙ found in
          let at : i ≡ n = cc in
          let zero : n - i ≡ 0 = omega arith in
          (omega arith, rw zero (sym ((bytes_eq-Decides name x).0 same)))
      | inr differ ↦
          let later : position_from (λ other. bytes_eq name other) (i + 1) xs ≡ Some n = sym (ap (λ b. cond b (Some i) (position_from (λ other. bytes_eq name other) (i + 1) xs)) differ) ∙ found in
          let rest = place_of-at (i + 1) n xs name later in
          let below : i + 1 ≤ n = rest.0 in
          let next : n - i ≡ suc (n - (i + 1)) = omega arith in
          (omega arith, rw next rest.1)
    ]

one-place : (names : List (List ℕ)) (left right : List ℕ) (n : ℕ) → place_of names left ≡ Some n → place_of names right ≡ Some n → left ≡ right
one-place names left right n a b =
    let zero : n - 0 ≡ n = omega arith in
    sym (place_of-at 0 n names left a).1 ∙ (place_of-at 0 n names right b).1

-- and whether some word is mentioned
mentioned-new : (same found : Bool) (n : ℕ) (o : Option ℕ) → (not (is_none o) || same) ≡ not (is_none (cond same (Some n) o))
mentioned-new true found n None = refl
mentioned-new true found n (Some k) = refl
mentioned-new false found n None = refl
mentioned-new false found n (Some k) = refl

mentioned-by : (named : Named) (mention : Mention) (word : List ℕ) (place : Option ℕ) → place_of named.names mention.word.text ≡ place
    → (not (is_none (place_of named.names word)) || bytes_eq word mention.word.text) ≡ not (is_none (place_of (with_place named mention place).names word))
mentioned-by named mention word None is =
    let name = mention.word.text in
    rw (bytes_eq-sym word name)
    (mentioned-new (bytes_eq name word) true (length named.names) (place_of named.names word)
    ∙ ap (λ o. not (is_none o)) (place_of-push named.names name word (length named.names) refl (ap is_none is)))
mentioned-by named mention word (Some number) is =
    let name = mention.word.text in
    elim (cases_Bool (bytes_eq word name)) [
      | inl same ↦
          let here : place_of named.names word ≡ Some number = ap (place_of named.names) ((bytes_eq-Decides word name).0 same) ∙ is in
          rw here refl
      | inr differ ↦ rw differ (or-false (not (is_none (place_of named.names word))))
    ]

by-drives : (drives : Bool) → (false || (drives && true)) ≡ drives
by-drives true = refl
by-drives false = refl

by-not : (b drives : Bool) → (b || (drives && false)) ≡ b
by-not true drives = refl
by-not false true = refl
by-not false false = refl

by-both : (b drives : Bool) → (b || (drives && true)) ≡ (b || drives)
by-both true drives = refl
by-both false true = refl
by-both false false = refl

-- and whether some word is driven
driven-new : (named : Named) (mention : Mention) (word : List ℕ) (same : Bool) (o : Option ℕ) → length named.driven ≡ length named.names → same ≡ bytes_eq mention.word.text word
    → place_of named.names word ≡ o → place_of named.names mention.word.text ≡ None
    → (driven_at named o || (mention.drives && same)) ≡ driven_at (with_place named mention None) (cond same (Some (length named.names)) o)
driven-new named mention word true o sized is at none =
    let none_here : o ≡ None = sym at ∙ ap (place_of named.names) (sym ((bytes_eq-Decides mention.word.text word).0 (sym is))) ∙ none in
    rw none_here (by-drives mention.drives ∙ sym (get_or_push named.driven mention.drives false (length named.names) sized))
driven-new named mention word false None sized is at none = elim mention.drives as (λ b. (false || (b && false)) ≡ false) [ true ↦ refl | false ↦ refl ]
driven-new named mention word false (Some k) sized is at none =
    let inside : k < length named.driven = omega (arith, place_of-within named.names word k at) in
    by-not (get_or named.driven k false) mention.drives ∙ sym (get_or_append_left named.driven (mention.drives ∷ []) false k inside)

driven-old : (named : Named) (mention : Mention) (word : List ℕ) (same : Bool) (number : ℕ) (o : Option ℕ) → length named.driven ≡ length named.names → same ≡ bytes_eq word mention.word.text
    → place_of named.names word ≡ o → place_of named.names mention.word.text ≡ Some number
    → (driven_at named o || (mention.drives && same)) ≡ driven_at (with_place named mention (Some number)) o
driven-old named mention word true number o sized is at found =
    let name = mention.word.text in
    let here : o ≡ Some number = sym at ∙ ap (place_of named.names) ((bytes_eq-Decides word name).0 (sym is)) ∙ found in
    let inside : number < length named.driven = omega (arith, place_of-within named.names name number found) in
    rw here (by-both (get_or named.driven number false) mention.drives ∙ sym (get_or-set_same named.driven number (get_or named.driven number false || mention.drives) false inside))
driven-old named mention word false number None sized is at found = elim mention.drives as (λ b. (false || (b && false)) ≡ false) [ true ↦ refl | false ↦ refl ]
driven-old named mention word false number (Some k) sized is at found =
    let name = mention.word.text in
    let apart : k ≢ number = λ same.
    let one : word ≡ name = one-place named.names word name number (at ∙ ap Some same) found in
    let equal : bytes_eq word name ≡ true = (bytes_eq-Decides word name).1 one in
    absurd (false≢true (is ∙ equal)) in
    by-not (get_or named.driven k false) mention.drives ∙ sym (get_or-set_other named.driven number k (get_or named.driven number false || mention.drives) false apart)

driven-by : (named : Named) (mention : Mention) (word : List ℕ) (place : Option ℕ) → length named.driven ≡ length named.names → place_of named.names mention.word.text ≡ place
    → (driven_at named (place_of named.names word) || (mention.drives && bytes_eq word mention.word.text)) ≡ driven_at (with_place named mention place) (place_of (with_place named mention place).names word)
driven-by named mention word None sized is =
    let name = mention.word.text in
    rw (bytes_eq-sym word name)
    (driven-new named mention word (bytes_eq name word) (place_of named.names word) sized refl refl is
    ∙ ap (driven_at (with_place named mention None)) (place_of-push named.names name word (length named.names) refl (ap is_none is)))
driven-by named mention word (Some number) sized is =
    driven-old named mention word (bytes_eq word mention.word.text) number (place_of named.names word) sized refl refl is

sized-by : (named : Named) (mention : Mention) (place : Option ℕ) → length named.driven ≡ length named.names
    → length (with_place named mention place).driven ≡ length (with_place named mention place).names
sized-by named mention None sized = omega (arith, length-append named.driven (mention.drives ∷ []), length-append named.names (mention.word.text ∷ []))
sized-by named mention (Some number) sized = length-set named.driven number (get_or named.driven number false || mention.drives) ∙ sized

tracks-more : (before : List Mention) (named : Named) (mention : Mention) → Tracks before named → Tracks (before ++ mention ∷ []) (with_mention named mention)
tracks-more before named mention tracks =
    let name = mention.word.text in
    record {
      names = names-more before named mention tracks;
      sized = sized-by named mention (place_of named.names name) tracks.sized;
      mentioned = λ word.
          any-push (is_of word) before mention
          ∙ ap (λ b. b || is_of word mention) (tracks.mentioned word)
          ∙ mentioned-by named mention word.text (place_of named.names name) refl;
      driven = λ word.
          any-push (λ other. other.drives && is_of word other) before mention
          ∙ ap (λ b. b || (mention.drives && is_of word mention)) (tracks.driven word)
          ∙ driven-by named mention word.text (place_of named.names name) tracks.sized refl;
    }

tracks-none : (whole : List ℕ) → Tracks [] (nothing_named whole)
tracks-none whole = record { names = refl; sized = refl; mentioned = λ word. refl; driven = λ word. refl }

tracks-by : (before mentions : List Mention) (named : Named) → Tracks before named → Tracks (before ++ mentions) (fold with_mention named mentions)
tracks-by before [] named tracks = subst (λ (list : List Mention). Tracks list named) (sym (append-nil before)) tracks
tracks-by before (mention ∷ mentions) named tracks =
    subst (λ (list : List Mention). Tracks list (fold with_mention (with_mention named mention) mentions)) (append_assoc before (mention ∷ []) mentions)
    (tracks-by (before ++ mention ∷ []) mentions (with_mention named mention) (tracks-more before named mention tracks))

pub tracks-named : (whole : List ℕ) (mentions : List Mention) → Tracks mentions (named_by whole mentions)
tracks-named whole mentions = tracks-by [] mentions (nothing_named whole) (tracks-none whole)

pub naming-names : (whole : List ℕ) (mentions : List Mention) → names_of mentions ≡ (named_by whole mentions).names
naming-names whole mentions = (tracks-named whole mentions).names

pub naming-rule : (whole : List ℕ) (before : List Mention) (mention : Mention) → name_rule before mention ≡ rule_of (named_by whole before) mention
naming-rule whole before mention = rule-same before (named_by whole before) mention (tracks-named whole before)

pub naming-fault : (whole : List ℕ) (before mentions : List Mention) → names_fault before mentions ≡ names_fault_in (named_by whole before) mentions
naming-fault whole before [] = refl
naming-fault whole before (mention ∷ mentions) =
    let here = naming-rule whole before mention in
    let next : named_by whole (before ++ mention ∷ []) ≡ with_mention (named_by whole before) mention = fold-append with_mention (nothing_named whole) before (mention ∷ []) in
    let later = naming-fault whole (before ++ mention ∷ []) mentions ∙ ap (λ named. names_fault_in named mentions) next in
    rw (here, later) refl

pub naming-more : (whole : List ℕ) (before mentions : List Mention) → named_by whole (before ++ mentions) ≡ with_mentions (named_by whole before) mentions
naming-more whole before [] = ap (named_by whole) (append-nil before)
naming-more whole before (mention ∷ mentions) =
    ap (named_by whole) (sym (append_assoc before (mention ∷ []) mentions))
    ∙ naming-more whole (before ++ mention ∷ []) mentions
    ∙ ap (λ named. with_mentions named mentions) (fold-append with_mention (nothing_named whole) before (mention ∷ []))
