-- The first use of a name that nothing drives, by what the models offer, is that of the text.
use Rattle.std.proofs.Common.{◌≡◌, ◌⊎◌, ℕ, ◌-◌, ◌<◌, ◌≤◌, Bool, true, false, not, ◌&&◌, ◌||◌, cond, List, [], ◌∷◌, ◌++◌, length, map, take, drop, slice_index_or, Option, None, Some, is_none, zero, suc, refl, sym, ap, ◌∙◌, subst, inl, inr, arith}
use Rattle.std.proofs.lemmas.List.{append_assoc, drop-map, drop_all, get_or-map, map-append, take-map, take-append-drop}
use Rattle.std.proofs.lemmas.List.Folds.{find-append, list_any-append}
use Rattle.std.specs.List.{find, flat_map, list_any}
use Rattle.std.specs.Option.{option_map, option_or}
use Rattle.std.specs.Str.{bytes_eq}
use Rattle.psl_base.specs.Tokens.{PlacedToken}
use Rattle.psl_base.specs.declared.place.Place.{Place}
use Rattle.blif_flattening.specs.declared.model.Item.{Item}
use Rattle.blif_flattening.specs.declared.model.Item.TheVariants.{Own}
use Rattle.blif_model.specs.declared.file.FileText.{FileText}
use Rattle.blif_model.specs.declared.line.ModelLine.{ModelLine}
use Rattle.blif_model.specs.FileKnown.{OwnLines, numbered_part, part_in}
use Rattle.blif_model.specs.Files.{Part, Placing}
use Rattle.blif_model.specs.Models.{Mention, Model, Statement, IsInputs, IsOutputs, IsLatch, IsTable, driven, is_driven, is_undriven, names_of}
use Rattle.blif_model.specs.Names.{named_by, nothing_named, number_at, number_of, place_of}
use Rattle.blif_model.specs.Numbered.{items_of, line_of, words_in}
use Rattle.blif_model.proofs.Held.{PartsHold, parts-hold}
use Rattle.blif_model.proofs.Knowing.{HoldAll, HoldSaid, words_of_mentions}
use Rattle.blif_model.proofs.Mentioned.{all_mentions, all_mentions-append, mentions_in}
use Rattle.blif_model.proofs.Naming.{naming-names}
use Rattle.blif_model.proofs.Places.{place_of-within}
use Rattle.blif_model.proofs.Saying.{said-held, text-placed, words-said}
use Rattle.blif_model.proofs.Undriving.{drives-here, drives_in, first_mention, firsts-by, of_mention, of_word, texts, texts-by}
use Rattle.blif_linking.specs.declared.interface.Interface.{Interface}
use Rattle.blif_linking.specs.Actuals.{at_place, mentions_at}
use Rattle.blif_linking.specs.Bad.{IsReadAs}
use Rattle.blif_linking.specs.Driving.{found_in, lines_drive}
use Rattle.blif_linking.specs.Interfaces.{is_one_of}
use Rattle.blif_linking.specs.Names as names
use Rattle.blif_linking.specs.Names.{Says, Places, entries_from, first_some, first_undriven, mentions_entered, mentions_placed, mentions_said, undriven_word}
use Rattle.blif_linking.specs.Offers.{interface_in}
use Rattle.blif_linking.specs.Undriven.{first_free, free_by, free_from, free_names, is_free, items_free, some_free, undriven_among, undriven_within}
use Rattle.blif_linking.proofs.Connecting.{AllOffer, Numbers, placed-mention, read-offers}
use Rattle.blif_linking.proofs.Drivers.{Finds, all-found, own-flags, place-or}
use Rattle.blif_linking.proofs.Sets.{or-false}

-- what stands in a model mentions what its lines mention and what is placed
pub said-same : (statement : Statement) → mentions_said statement ≡ mentions_in statement
said-same (IsInputs words) = refl
said-same (IsOutputs words) = refl
said-same (IsLatch latch) = refl
said-same (IsTable gate) = refl

pub flat-append : {A B : Type 0} (f : A → List B) (xs ys : List A) → flat_map f (xs ++ ys) ≡ flat_map f xs ++ flat_map f ys
flat-append f [] ys = refl
flat-append f (x ∷ xs) ys = ap (λ rest. f x ++ rest) (flat-append f xs ys) ∙ sym (append_assoc (f x) (flat_map f xs) (flat_map f ys))

pub flat-said : (parts : List (Part Model)) (statements : List Statement) → flat_map (mentions_entered parts) (map Says statements) ≡ all_mentions statements
flat-said parts [] = refl
flat-said parts (statement ∷ statements) =
    ap (λ (list : List Mention). list ++ flat_map (mentions_entered parts) (map Says statements)) (said-same statement)
    ∙ ap (λ (rest : List Mention). mentions_in statement ++ rest) (flat-said parts statements)

-- the entries behind some lines, and a placement
pub flat-entries : (parts : List (Part Model)) (before : ℕ) (statements : List Statement) (placing : Placing) (placings : List Placing)
    → flat_map (mentions_entered parts) (entries_from before statements (placing ∷ placings))
    ≡ all_mentions (take (placing.before - before) statements)
    ++ (mentions_placed parts placing ++ flat_map (mentions_entered parts) (entries_from placing.before (drop (placing.before - before) statements) placings))
flat-entries parts before statements placing placings =
    let rest = entries_from placing.before (drop (placing.before - before) statements) placings in
    flat-append (mentions_entered parts) (map Says (take (placing.before - before) statements)) (Places placing ∷ rest)
    ∙ ap (λ (list : List Mention). list ++ (mentions_placed parts placing ++ flat_map (mentions_entered parts) rest)) (flat-said parts (take (placing.before - before) statements))

or-swap : (a b c d : Bool) → (a || (b || (c || d))) ≡ ((a || c) || (b || d))
or-swap true b c d = refl
or-swap false b true true = elim b as (λ x. (x || true) ≡ true) [ true ↦ refl | false ↦ refl ]
or-swap false b true false = elim b as (λ x. (x || true) ≡ true) [ true ↦ refl | false ↦ refl ]
or-swap false b false d = refl

pub split-at : (k : ℕ) (statements : List Statement) → all_mentions statements ≡ all_mentions (take k statements) ++ all_mentions (drop k statements)
split-at k statements = ap all_mentions (sym (take-append-drop k statements)) ∙ all_mentions-append (take k statements) (drop k statements)

-- a mention of a model is one of its lines or of what is placed
pub any-entry : (parts : List (Part Model)) (test : Mention → Bool) (before : ℕ) (statements : List Statement) (placings : List Placing)
    → list_any test (flat_map (mentions_entered parts) (entries_from before statements placings))
    ≡ (list_any test (all_mentions statements) || list_any test (flat_map (mentions_placed parts) placings))
any-entry parts test before statements [] =
    ap (list_any test) (flat-said parts statements) ∙ sym (or-false (list_any test (all_mentions statements)))
any-entry parts test before statements (placing ∷ placings) =
    let k = placing.before - before in
    let here = mentions_placed parts placing in
    let later = flat_map (mentions_entered parts) (entries_from placing.before (drop k statements) placings) in
    let others = flat_map (mentions_placed parts) placings in
    ap (list_any test) (flat-entries parts before statements placing placings)
    ∙ list_any-append test (all_mentions (take k statements)) (here ++ later)
    ∙ ap (λ b. list_any test (all_mentions (take k statements)) || b) (list_any-append test here later)
    ∙ ap (λ b. list_any test (all_mentions (take k statements)) || (list_any test here || b)) (any-entry parts test placing.before (drop k statements) placings)
    ∙ or-swap (list_any test (all_mentions (take k statements))) (list_any test here) (list_any test (all_mentions (drop k statements))) (list_any test others)
    ∙ ap (λ b. b || (list_any test here || list_any test others)) (sym (list_any-append test (all_mentions (take k statements)) (all_mentions (drop k statements))))
    ∙ ap (λ (list : List Mention). list_any test list || (list_any test here || list_any test others)) (sym (split-at k statements))
    ∙ ap (λ b. list_any test (all_mentions statements) || b) (sym (list_any-append test here others))

-- a use of a name that is driven by none
abbrev unmet : (List ℕ → Bool) → Mention → Bool
unmet driven mention = not mention.drives && not (driven mention.word.text)

abbrev first_unmet : (List ℕ → Bool) → List Mention → Option PlacedToken
first_unmet driven mentions = option_map (λ mention. mention.word) (find (unmet driven) mentions)

map-or : (one other : Option Mention) → option_map (λ mention. mention.word) (option_or one other) ≡ option_or (option_map (λ mention. mention.word) one) (option_map (λ mention. mention.word) other)
map-or None other = refl
map-or (Some mention) other = refl

unmet-append : (driven : List ℕ → Bool) (one other : List Mention) → first_unmet driven (one ++ other) ≡ option_or (first_unmet driven one) (first_unmet driven other)
unmet-append driven one other =
    ap (option_map (λ mention. mention.word)) (find-append (unmet driven) one other) ∙ map-or (find (unmet driven) one) (find (unmet driven) other)

find-same : (one other : Mention → Bool) → ((mention : Mention) → one mention ≡ other mention) → (mentions : List Mention) → find one mentions ≡ find other mentions
find-same one other same [] = refl
find-same one other same (mention ∷ mentions) =
    ap (λ b. cond b (Some mention) (find one mentions)) (same mention)
    ∙ ap (λ (found : Option Mention). cond (other mention) (Some mention) found) (find-same one other same mentions)

-- what mentions drive is driven
abbrev AreMet : (List ℕ → Bool) → List Mention → Type 0
AreMet driven [] = Unit {0}
AreMet driven (mention ∷ mentions) = (mention.drives ≡ true → driven mention.word.text ≡ true) × AreMet driven mentions

met-all : (driven : List ℕ → Bool) (own before mentions : List Mention) → own ≡ before ++ mentions
    → ((word : PlacedToken) → is_driven own word ≡ true → driven word.text ≡ true) → AreMet driven mentions
met-all driven own before [] is met = tt
met-all driven own before (mention ∷ mentions) is met = (
  λ drives. met mention.word (ap (λ list. drives_in list mention.word.text) is ∙ drives-here before mentions mention drives),
  met-all driven own (before ++ mention ∷ []) mentions (is ∙ sym (append_assoc before (mention ∷ []) mentions)) met,
)

met-front : (driven : List ℕ → Bool) (one other : List Mention) → AreMet driven (one ++ other) → AreMet driven one
met-front driven [] other met = tt
met-front driven (mention ∷ one) other met = (met.0, met-front driven one other met.1)

met-back : (driven : List ℕ → Bool) (one other : List Mention) → AreMet driven (one ++ other) → AreMet driven other
met-back driven [] other met = met
met-back driven (mention ∷ one) other met = met-back driven one other met.1

unmet-is : (drives is : Bool) → (drives ≡ true → is ≡ true) → (not drives && not is) ≡ not is
unmet-is true is met = rw (met refl) refl
unmet-is false is met = refl

unmet-first : (driven : List ℕ → Bool) (mentions : List Mention) → AreMet driven mentions → find (unmet driven) mentions ≡ find (of_mention driven) mentions
unmet-first driven [] met = refl
unmet-first driven (mention ∷ mentions) met =
    ap (λ b. cond b (Some mention) (find (unmet driven) mentions)) (unmet-is mention.drives (driven mention.word.text) met.0)
    ∙ ap (λ (found : Option Mention). cond (of_mention driven mention) (Some mention) found) (unmet-first driven mentions met.1)

-- whether something is found
abbrev is_found : Option PlacedToken → Bool
is_found word = not (is_none word)

found-any : (driven : List ℕ → Bool) (mentions : List Mention) → AreMet driven mentions
    → is_found (first_unmet driven mentions) ≡ list_any (λ (word : PlacedToken). not (driven word.text)) (words_of_mentions mentions)
found-any driven [] met = refl
found-any driven (mention ∷ mentions) met =
    ap (λ b. is_found (option_map (λ mention. mention.word) (cond b (Some mention) (find (unmet driven) mentions)))) (unmet-is mention.drives (driven mention.word.text) met.0)
    ∙ by-first (not (driven mention.word.text)) (find (unmet driven) mentions)
    ∙ ap (λ b. not (driven mention.word.text) || b) (found-any driven mentions met.1)
  where
    by-first : (b : Bool) (rest : Option Mention) → is_found (option_map (λ mention. mention.word) (cond b (Some mention) rest)) ≡ (b || is_found (option_map (λ mention. mention.word) rest))
    by-first true rest = refl
    by-first false rest = refl

-- lines up to one, and behind it
pub said-take : (names : List (List ℕ)) (k : ℕ) (statements : List Statement) → HoldSaid names statements → HoldSaid names (take k statements)
said-take names zero statements held = tt
said-take names (suc k) [] held = tt
said-take names (suc k) (statement ∷ statements) held = (held.0, said-take names k statements held.1)

pub said-drop : (names : List (List ℕ)) (k : ℕ) (statements : List Statement) → HoldSaid names statements → HoldSaid names (drop k statements)
said-drop names zero statements held = held
said-drop names (suc k) [] held = tt
said-drop names (suc k) (statement ∷ statements) held = said-drop names k statements held.1

-- a chunk of lines, a placement and the rest
one-step : (chunk behind word here rest : Option PlacedToken) (there later : Option Place) → word ≡ option_or chunk behind → at_place here ≡ there
    → (behind ≡ word → at_place rest ≡ later)
    → at_place (option_or chunk (option_or here rest)) ≡ cond (is_found chunk) (at_place word) (option_or there later)
one-step (Some first) behind word here rest there later is same next = ap at_place (sym is)
one-step None behind word here rest there later is same next =
    place-or here rest ∙ ap (λ (o : Option Place). option_or o (at_place rest)) same ∙ ap (option_or there) (next (sym is))

place-found : (b : Bool) (mention : Mention) (rest : Option Mention)
    → at_place (option_map (λ mention. mention.word) (cond b (Some mention) rest)) ≡ cond b (Some mention.word.place) (at_place (option_map (λ mention. mention.word) rest))
place-found true mention rest = refl
place-found false mention rest = refl

place-self : (word : Option PlacedToken) → at_place word ≡ cond (is_found word) (at_place word) None
place-self None = refl
place-self (Some word) = refl

module _ (own : List (List ℕ)) (flags : List Bool) (found : List (List ℕ)) where
  abbrev met : List ℕ → Bool
  met name = lines_drive own flags name || is_one_of found name

  abbrev free : List Bool
  free = free_names own flags found

  words-free : (words : List PlacedToken) → HoldAll own words
      → some_free free (map (number_of own) words) ≡ list_any (λ (word : PlacedToken). not (met word.text)) words
  words-free [] held = refl
  words-free (word ∷ words) held =
      let n = held.0.0 in
      let within : n < length own = place_of-within own word.text n held.0.1 in
      let here : slice_index_or free (number_of own word) false ≡ not (met word.text) =
      ap (λ place. slice_index_or free (number_at place) false) held.0.1
      ∙ get_or-map (is_free own flags found) own n [] false within
      ∙ ap (is_free own flags found) (text-placed own word.text n held.0.1) in
      ap (λ b. b || some_free free (map (number_of own) words)) here
      ∙ ap (λ b. not (met word.text) || b) (words-free words held.1)

  lines-free : (statements : List Statement) → HoldSaid own statements
      → items_free free (items_of own statements) ≡ list_any (λ (word : PlacedToken). not (met word.text)) (words_of_mentions (all_mentions statements))
  lines-free [] held = refl
  lines-free (statement ∷ statements) held =
      let test = λ (word : PlacedToken). not (met word.text) in
      ap (λ b. b || items_free free (items_of own statements)) (words-free (words_in statement) held.0)
      ∙ ap (λ b. list_any test (words_in statement) || b) (lines-free statements held.1)
      ∙ ap (λ words. list_any test words || list_any test (words_of_mentions (all_mentions statements))) (sym (words-said statement))
      ∙ sym (list_any-append test (words_of_mentions (mentions_in statement)) (words_of_mentions (all_mentions statements)))
      ∙ ap (list_any test) (sym (map-append (λ (mention : Mention). mention.word) (mentions_in statement) (all_mentions statements)))

  items-found : (statements : List Statement) → HoldSaid own statements → AreMet met (all_mentions statements)
      → items_free free (items_of own statements) ≡ is_found (first_unmet met (all_mentions statements))
  items-found statements held all = lines-free statements held ∙ sym (found-any met (all_mentions statements) all)

  -- connections
  mentions-free : (mentions : List Mention) → at_place (first_unmet met mentions) ≡ free_by own flags found mentions
  mentions-free [] = refl
  mentions-free (mention ∷ mentions) =
      let b = not mention.drives && not (met mention.word.text) in
      place-found b mention (find (unmet met) mentions) ∙ ap (cond b (Some mention.word.place)) (mentions-free mentions)

  -- a model
  module _ (number : List ℕ → Option ℕ) (interfaces : List Interface) (parts : List (Part Model)) (same : Numbers number parts) (all : AllOffer interfaces parts) (word : Option PlacedToken) where
    walk-free : (before : ℕ) (statements : List Statement) (placings : List Placing) → HoldSaid own statements → AreMet met (all_mentions statements)
        → first_unmet met (all_mentions statements) ≡ word
        → at_place (first_unmet met (flat_map (mentions_entered parts) (entries_from before statements placings)))
        ≡ free_from own flags found free (at_place word) number interfaces before (items_of own statements) placings
    walk-free before statements [] held are first =
        ap (λ (list : List Mention). at_place (first_unmet met list)) (flat-said parts statements)
        ∙ ap at_place first ∙ place-self word
        ∙ ap (λ b. cond b (at_place word) None) (sym (items-found statements held are ∙ ap is_found first))
    walk-free before statements (placing ∷ placings) held are first =
        let k = placing.before - before in
        let chunk = all_mentions (take k statements) in
        let later = all_mentions (drop k statements) in
        let here = mentions_placed parts placing in
        let rest = flat_map (mentions_entered parts) (entries_from placing.before (drop k statements) placings) in
        let split = subst (AreMet met) (split-at k statements) are in
        let there = free_by own flags found (mentions_at number interfaces placing) in
        let behind : word ≡ option_or (first_unmet met chunk) (first_unmet met later) =
        sym first ∙ ap (first_unmet met) (split-at k statements) ∙ unmet-append met chunk later in
        let items = items-found (take k statements) (said-take own k statements held) (met-front met chunk later split) in
        let next = walk-free placing.before (drop k statements) placings (said-drop own k statements held) (met-back met chunk later split) in
        let by = λ (some : Bool) (list : List (Item ModelLine)).
        cond some (at_place word) (option_or there (free_from own flags found free (at_place word) number interfaces placing.before list placings)) in
        ap (λ (list : List Mention). at_place (first_unmet met list)) (flat-entries parts before statements placing placings)
        ∙ ap at_place (unmet-append met chunk (here ++ rest) ∙ ap (option_or (first_unmet met chunk)) (unmet-append met here rest))
        ∙ one-step (first_unmet met chunk) (first_unmet met later) word (first_unmet met here) (first_unmet met rest) there
        (free_from own flags found free (at_place word) number interfaces placing.before (items_of own (drop k statements)) placings) behind
        (mentions-free here ∙ ap (free_by own flags found) (sym (placed-mention number interfaces parts placing same all))) next
        ∙ ap (λ b. by b (items_of own (drop k statements))) (sym items)
        ∙ ap (λ (list : List (Item ModelLine)). by (items_free free list) (items_of own (drop k statements)))
        (sym (take-map (λ (statement : Statement). Own (line_of own statement)) k statements))
        ∙ ap (by (items_free free (take k (items_of own statements)))) (sym (drop-map (λ (statement : Statement). Own (line_of own statement)) k statements))

-- the word that mentions the first free name
first-word : (driven : List ℕ → Bool) (words : List PlacedToken) → first_free (map (λ name. not (driven name)) (texts words)) words ≡ find (of_word driven) words
first-word driven [] = refl
first-word driven (word ∷ words) = ap (λ (found : Option PlacedToken). cond (not (driven word.text)) (Some word) found) (first-word driven words)

own-first : (whole : List ℕ) (driven : List ℕ → Bool) (mentions : List Mention)
    → first_free (map (λ name. not (driven name)) (names_of mentions)) (named_by whole mentions).firsts ≡ first_mention driven mentions
own-first whole driven mentions =
    let named = named_by whole mentions in
    ap (λ names. first_free (map (λ name. not (driven name)) names) named.firsts) (naming-names whole mentions ∙ texts-by (nothing_named whole) mentions refl)
    ∙ first-word driven named.firsts
    ∙ firsts-by driven (nothing_named whole) mentions refl

or-true : (b : Bool) → (b || true) ≡ true
or-true true = refl
or-true false = refl

-- a name that is not driven in a model
part-undriven : (whole : List ℕ) (number : List ℕ → Option ℕ) (interfaces : List Interface) (parts : List (Part Model)) (part : Part Model) → Numbers number parts → AllOffer interfaces parts
    → part.own.mentions ≡ all_mentions part.own.statements
    → undriven_within number interfaces (numbered_part whole part) ≡ at_place (undriven_word parts part)
part-undriven whole number interfaces parts part same all mentioned =
    let own = names_of part.own.mentions in
    let flags = (named_by whole part.own.mentions).driven in
    let found = found_in number interfaces [] part.placings in
    let driven = λ (name : List ℕ). lines_drive own flags name || is_one_of found name in
    let mentions = names.mentions_in parts part in
    let statements = part.own.statements in
    let placed_mentions = flat_map (mentions_placed parts) part.placings in
    let says = own-flags whole part in
    let finds : Finds found placed_mentions = all-found number interfaces parts same all [] [] part.placings (λ word. refl) in
    let is_met : (word : PlacedToken) → is_driven mentions word ≡ driven word.text = λ word.
    any-entry parts (λ mention. mention.drives && bytes_eq word.text mention.word.text) 0 statements part.placings
    ∙ ap (λ b. b || is_driven placed_mentions word) (ap (λ list. is_driven list word) (sym mentioned) ∙ says word)
    ∙ ap (λ b. lines_drive own flags word.text || b) (finds word) in
    let lines_met : (word : PlacedToken) → is_driven part.own.mentions word ≡ true → driven word.text ≡ true = λ word drives.
    ap (λ b. b || is_one_of found word.text) (sym (says word) ∙ drives) in
    let are : AreMet driven (all_mentions statements) = met-all driven part.own.mentions [] (all_mentions statements) mentioned lines_met in
    let first : first_unmet driven (all_mentions statements) ≡ first_free (free_names own flags found) (named_by whole part.own.mentions).firsts =
    ap (option_map (λ mention. mention.word)) (unmet-first driven (all_mentions statements) are)
    ∙ ap (first_mention driven) (sym mentioned)
    ∙ sym (own-first whole driven part.own.mentions) in
    sym (walk-free own flags found number interfaces parts same all (first_free (free_names own flags found) (named_by whole part.own.mentions).firsts)
    0 statements part.placings (said-held part.own mentioned) are first)
    ∙ ap (λ (o : Option Mention). at_place (option_map (λ mention. mention.word) o))
    (sym (find-same (is_undriven mentions) (unmet driven) (λ mention. ap (λ b. not mention.drives && not b) (is_met mention.word)) mentions))

among-undriven : (whole : List ℕ) (size most : ℕ) (number : List ℕ → Option ℕ) (interfaces : List Interface) (parts some : List (Part Model)) → Numbers number parts → AllOffer interfaces parts
    → PartsHold size some most
    → undriven_among number interfaces (map (numbered_part whole) some) ≡ at_place (first_some (undriven_word parts) some)
among-undriven whole size most number interfaces parts [] same all hold = refl
among-undriven whole size most number interfaces parts (part ∷ some) same all hold =
    let rest = undriven_among number interfaces (map (numbered_part whole) some) in
    ap (λ (o : Option Place). option_or o rest) (part-undriven whole number interfaces parts part same all hold.0.own.mentions)
    ∙ ap (option_or (at_place (undriven_word parts part))) (among-undriven whole size most number interfaces parts some same all hold.1)
    ∙ sym (place-or (undriven_word parts part) (first_some (undriven_word parts) some))

pub undriven-is : (whole : List ℕ) (text : FileText) (interfaces : List Interface) (parts : List (Part Model)) → interfaces ≡ map (interface_in whole) text.models
    → IsReadAs whole text parts
    → undriven_among (place_of text.titles) interfaces (map (part_in whole) text.models) ≡ at_place (first_undriven parts)
undriven-is whole text interfaces parts are read =
    ap (λ (list : List (Part OwnLines)). undriven_among (place_of text.titles) interfaces list) read.1.0
    ∙ among-undriven whole (length whole) (length whole) (place_of text.titles) interfaces parts parts read.1.1
    (subst (λ list. AllOffer list parts) (sym are) (read-offers whole text parts read)) (parts-hold whole parts read.0)

-- the first free name, word by word
pub free-later : (free : List Bool) (words : List PlacedToken) (n : ℕ) → n < length free → n < length words → slice_index_or free n false ≡ false
    → first_free (drop n free) (drop n words) ≡ first_free (drop (suc n) free) (drop (suc n) words)
free-later [] words n within inside off = absurd (omega (arith, within))
free-later (is ∷ free) [] n within inside off = absurd (omega (arith, inside))
free-later (is ∷ free) (word ∷ words) zero within inside off = ap (λ b. cond b (Some word) (first_free free words)) off
free-later (is ∷ free) (word ∷ words) (suc n) within inside off = free-later free words n (omega arith) (omega arith) off

no-words : (free : List Bool) → first_free free [] ≡ None
no-words [] = refl
no-words (is ∷ free) = refl

pub free-end : (free : List Bool) (words : List PlacedToken) (n : ℕ) → (length free ≤ n) ⊎ (length words ≤ n) → first_free (drop n free) (drop n words) ≡ None
free-end free words n (inl past) = ap (λ (list : List Bool). first_free list (drop n words)) (drop_all n free past)
free-end free words n (inr past) = ap (first_free (drop n free)) (drop_all n words past) ∙ no-words (drop n free)
