-- The first connection that drives what is driven already, by what the models offer, is that of the text.
use Rattle.std.proofs.Common.{◌≡◌, ℕ, Bool, true, false, ◌&&◌, ◌||◌, cond, List, [], ◌∷◌, ◌++◌, map, Option, None, Some, refl, sym, ap, ◌∙◌, subst}
use Rattle.std.proofs.lemmas.List.{append-nil, append_assoc}
use Rattle.std.proofs.lemmas.List.Folds.{list_any-append}
use Rattle.std.specs.List.{flat_map, list_any}
use Rattle.std.specs.Option.{option_map, option_or}
use Rattle.std.specs.Str.{bytes_eq}
use Rattle.psl_base.specs.Tokens.{PlacedToken}
use Rattle.psl_base.specs.declared.place.Place.{Place}
use Rattle.blif_model.specs.declared.file.FileText.{FileText}
use Rattle.blif_model.specs.declared.pieces.Span.{Span}
use Rattle.blif_model.specs.FileKnown.{OwnLines, numbered_part, part_in}
use Rattle.blif_model.specs.Files.{Part, Placing}
use Rattle.blif_model.specs.Models.{Mention, Model, is_driven, with_name}
use Rattle.blif_model.specs.Names.{Named, named_by, place_of}
use Rattle.blif_model.specs.Scanning.{word_of}
use Rattle.blif_model.proofs.Naming.{driven_at, naming-names, tracks-named}
use Rattle.blif_linking.specs.declared.interface.Interface.{Interface}
use Rattle.blif_linking.specs.Actuals.{at_place, mentions_at}
use Rattle.blif_linking.specs.Bad.{IsReadAs}
use Rattle.blif_linking.specs.Driving.{flag_at, found_by, found_in, found_with, lines_drive, twice_among, twice_by, twice_in}
use Rattle.blif_linking.specs.Interfaces.{is_one_of}
use Rattle.blif_linking.specs.Names.{driven_from, driven_word, first_driven, first_some, mentions_placed}
use Rattle.blif_linking.specs.Offers.{interface_in}
use Rattle.blif_linking.proofs.Connecting.{AllOffer, Numbers, placed-mention, read-offers}
use Rattle.blif_linking.proofs.Sets.{any-name, or-false}

pub place-or : (one other : Option PlacedToken) → at_place (option_or one other) ≡ option_or (at_place one) (at_place other)
place-or None other = refl
place-or (Some word) other = refl

cond-or : (b : Bool) (word : PlacedToken) (one other : Option PlacedToken) → option_or (cond b (Some word) one) other ≡ cond b (Some word) (option_or one other)
cond-or true word one other = refl
cond-or false word one other = refl

pub any-mentions : (test : Mention → Bool) (one other : List Mention) → list_any test (one ++ other) ≡ (list_any test one || list_any test other)
any-mentions test one other = list_any-append test one other

-- mentions behind others
driven-behind : (own before mentions more : List Mention)
    → driven_from own before (mentions ++ more) ≡ option_or (driven_from own before mentions) (driven_from own (before ++ mentions) more)
driven-behind own before [] more = ap (λ (list : List Mention). driven_from own list more) (sym (append-nil before))
driven-behind own before (mention ∷ mentions) more =
    let b = mention.drives && (is_driven own mention.word || is_driven before mention.word) in
    ap (λ (rest : Option PlacedToken). cond b (Some mention.word) rest)
    (driven-behind own (before ++ mention ∷ []) mentions more
    ∙ ap (λ (list : List Mention). option_or (driven_from own (before ++ mention ∷ []) mentions) (driven_from own list more)) (append_assoc before (mention ∷ []) mentions))
    ∙ sym (cond-or b mention.word (driven_from own (before ++ mention ∷ []) mentions) (driven_from own (before ++ mention ∷ mentions) more))

-- what is found of mentions says what they drive
abbrev pub Finds : List (List ℕ) → List Mention → Type 0
Finds found before = (word : PlacedToken) → is_driven before word ≡ is_one_of found word.text

abbrev pub Flags : List (List ℕ) → List Bool → List Mention → Type 0
Flags names flags own = (word : PlacedToken) → is_driven own word ≡ lines_drive names flags word.text

-- one mention more
more-found : (drives : Bool) (found : List (List ℕ)) (name other : List ℕ)
    → (is_one_of found other || (drives && bytes_eq other name)) ≡ is_one_of (cond drives (with_name found name) found) other
more-found true found name other = sym (any-name (bytes_eq other) found name)
more-found false found name other = or-false (is_one_of found other)

mention-found : (found : List (List ℕ)) (before : List Mention) (mention : Mention) → Finds found before
    → Finds (found_with found mention) (before ++ mention ∷ [])
mention-found found before mention finds = λ other.
    any-mentions (λ one. one.drives && bytes_eq other.text one.word.text) before (mention ∷ [])
    ∙ ap (λ b. is_driven before other || b) (or-false (mention.drives && bytes_eq other.text mention.word.text))
    ∙ ap (λ b. b || (mention.drives && bytes_eq other.text mention.word.text)) (finds other)
    ∙ more-found mention.drives found mention.word.text other.text

mentions-found : (found : List (List ℕ)) (before mentions : List Mention) → Finds found before
    → Finds (found_by found mentions) (before ++ mentions)
mentions-found found before [] finds = λ other. ap (λ (list : List Mention). is_driven list other) (append-nil before) ∙ finds other
mentions-found found before (mention ∷ mentions) finds = λ other.
    ap (λ (list : List Mention). is_driven list other) (sym (append_assoc before (mention ∷ []) mentions))
    ∙ mentions-found (found_with found mention) (before ++ mention ∷ []) mentions (mention-found found before mention finds) other

place-cond : (b : Bool) (word : PlacedToken) (rest : Option PlacedToken) → at_place (cond b (Some word) rest) ≡ cond b (Some word.place) (at_place rest)
place-cond true word rest = refl
place-cond false word rest = refl

mentions-twice : (names : List (List ℕ)) (flags : List Bool) (own : List Mention) (found : List (List ℕ)) (before mentions : List Mention)
    → Flags names flags own → Finds found before → at_place (driven_from own before mentions) ≡ twice_by names flags found mentions
mentions-twice names flags own found before [] says finds = refl
mentions-twice names flags own found before (mention ∷ mentions) says finds =
    let word = mention.word in
    let rest = driven_from own (before ++ mention ∷ []) mentions in
    let by = λ (line connection : Bool) (later : Option Place). cond (mention.drives && (line || connection)) (Some word.place) later in
    place-cond (mention.drives && (is_driven own word || is_driven before word)) word rest
    ∙ ap (λ b. by b (is_driven before word) (at_place rest)) (says word)
    ∙ ap (λ b. by (lines_drive names flags word.text) b (at_place rest)) (finds word)
    ∙ ap (by (lines_drive names flags word.text) (is_one_of found word.text))
    (mentions-twice names flags own (found_with found mention) (before ++ mention ∷ []) mentions says (mention-found found before mention finds))

module _ (number : List ℕ → Option ℕ) (interfaces : List Interface) (parts : List (Part Model)) (same : Numbers number parts) (all : AllOffer interfaces parts) where
  here-found : (found : List (List ℕ)) (before : List Mention) (placing : Placing) → Finds found before
      → Finds (found_by found (mentions_at number interfaces placing)) (before ++ mentions_placed parts placing)
  here-found found before placing finds =
      subst (λ (mentions : List Mention). Finds (found_by found mentions) (before ++ mentions_placed parts placing))
      (sym (placed-mention number interfaces parts placing same all)) (mentions-found found before (mentions_placed parts placing) finds)

  -- the placements of a model
  pub all-found : (found : List (List ℕ)) (before : List Mention) (placings : List Placing) → Finds found before
      → Finds (found_in number interfaces found placings) (before ++ flat_map (mentions_placed parts) placings)
  all-found found before [] finds = λ other. ap (λ (list : List Mention). is_driven list other) (append-nil before) ∙ finds other
  all-found found before (placing ∷ placings) finds = λ other.
      let here = mentions_placed parts placing in
      ap (λ (list : List Mention). is_driven list other) (sym (append_assoc before here (flat_map (mentions_placed parts) placings)))
      ∙ all-found (found_by found (mentions_at number interfaces placing)) (before ++ here) placings (here-found found before placing finds) other

  all-twice : (names : List (List ℕ)) (flags : List Bool) (own : List Mention) (found : List (List ℕ)) (before : List Mention) (placings : List Placing)
      → Flags names flags own → Finds found before
      → at_place (driven_from own before (flat_map (mentions_placed parts) placings)) ≡ twice_in names flags number interfaces found placings
  all-twice names flags own found before [] says finds = refl
  all-twice names flags own found before (placing ∷ placings) says finds =
      let there = mentions_at number interfaces placing in
      let here = mentions_placed parts placing in
      let rest = driven_from own (before ++ here) (flat_map (mentions_placed parts) placings) in
      ap at_place (driven-behind own before here (flat_map (mentions_placed parts) placings))
      ∙ place-or (driven_from own before here) rest
      ∙ ap (λ (o : Option Place). option_or o (at_place rest))
      (mentions-twice names flags own found before here says finds ∙ ap (twice_by names flags found) (sym (placed-mention number interfaces parts placing same all)))
      ∙ ap (option_or (twice_by names flags found there))
      (all-twice names flags own (found_by found there) (before ++ here) placings says (here-found found before placing finds))

-- what lines drive
flag-same : (named : Named) (place : Option ℕ) → driven_at named place ≡ flag_at named.driven place
flag-same named None = refl
flag-same named (Some n) = refl

pub own-flags : (whole : List ℕ) (part : Part Model) → Flags (numbered_part whole part).own.text.names (numbered_part whole part).own.driven part.own.mentions
own-flags whole part = λ word.
    let named = named_by whole part.own.mentions in
    (tracks-named whole part.own.mentions).driven word
    ∙ flag-same named (place_of named.names word.text)
    ∙ ap (λ names. flag_at named.driven (place_of names word.text)) (sym (naming-names whole part.own.mentions))

among-twice : (whole : List ℕ) (number : List ℕ → Option ℕ) (interfaces : List Interface) (parts some : List (Part Model)) → Numbers number parts → AllOffer interfaces parts
    → twice_among number interfaces (map (numbered_part whole) some) ≡ at_place (first_some (driven_word parts) some)
among-twice whole number interfaces parts [] same all = refl
among-twice whole number interfaces parts (part ∷ some) same all =
    let own = (numbered_part whole part).own in
    let rest = twice_among number interfaces (map (numbered_part whole) some) in
    ap (λ (o : Option Place). option_or o rest)
    (sym (all-twice number interfaces parts same all own.text.names own.driven part.own.mentions [] [] part.placings (own-flags whole part) (λ word. refl)))
    ∙ ap (option_or (at_place (driven_word parts part))) (among-twice whole number interfaces parts some same all)
    ∙ sym (place-or (driven_word parts part) (first_some (driven_word parts) some))

pub driven-is : (whole : List ℕ) (text : FileText) (interfaces : List Interface) (parts : List (Part Model)) → interfaces ≡ map (interface_in whole) text.models
    → IsReadAs whole text parts
    → twice_among (place_of text.titles) interfaces (map (part_in whole) text.models) ≡ at_place (first_driven parts)
driven-is whole text interfaces parts are read =
    ap (λ (list : List (Part OwnLines)). twice_among (place_of text.titles) interfaces list) read.1.0
    ∙ among-twice whole (place_of text.titles) interfaces parts parts read.1.1 (subst (λ list. AllOffer list parts) (sym are) (read-offers whole text parts read))

-- the places of spans
pub spans-at : (whole : List ℕ) (found : Option Span) → option_map (λ span. (word_of whole span).place) found ≡ at_place (option_map (word_of whole) found)
spans-at whole None = refl
spans-at whole (Some span) = refl
