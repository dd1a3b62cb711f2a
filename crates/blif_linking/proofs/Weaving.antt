-- The models by numbers, by what they offer and by their names, are those of the text.
use Rattle.std.proofs.Common.{◌≡◌, ℕ, zero, suc, add-one, ◌+◌, ◌-◌, ◌<◌, List, [], ◌∷◌, ◌++◌, length, map, take, drop, slice_index, slice_index_or, Option, None, Some, refl, sym, ap, ◌∙◌, subst}
use Rattle.std.specs.Prelude.{option_and_then, slice_get}
use Rattle.std.proofs.lemmas.List.{append_assoc, drop-map, get_or-map, map-append, take-map}
use Rattle.psl_base.specs.Tokens.{PlacedToken}
use Rattle.blif_flattening.specs.declared.model.Connection.{Connection}
use Rattle.blif_flattening.specs.declared.model.Item.{Item}
use Rattle.blif_flattening.specs.declared.model.Item.TheVariants.{Own, Place}
use Rattle.blif_flattening.specs.declared.model.Model.{Model as NumberedModel}
use Rattle.blif_model.specs.declared.file.FileText.{FileText}
use Rattle.blif_model.specs.declared.line.ModelLine.{ModelLine}
use Rattle.blif_model.specs.FileKnown.{OwnLines, numbered_part, part_in}
use Rattle.blif_model.specs.Files.{Part, Placing, model_named}
use Rattle.blif_model.specs.Models.{Model, Statement, names_of}
use Rattle.blif_model.specs.Names.{number_at, number_of, place_of}
use Rattle.blif_model.specs.Numbered.{items_of, kind_of, line_of, words_in}
use Rattle.blif_model.proofs.Held.{PartsHold, parts-hold}
use Rattle.blif_model.proofs.Knowing.{HoldAll, HoldSaid}
use Rattle.blif_model.proofs.Places.{place_of-within}
use Rattle.blif_model.proofs.Saying.{said-held, text-placed}
use Rattle.blif_linking.specs.declared.interface.Interface.{Interface}
use Rattle.blif_linking.specs.Bad.{IsReadAs, offered}
use Rattle.blif_linking.specs.Interfaces.{Role, Input, Output, Clock, role_of}
use Rattle.blif_linking.specs.Linked.{item_of, joined_all, joined_by_role, joined_link, linked, linked_model, linked_texts}
use Rattle.blif_linking.specs.Links.{Link, connections_in, link_of, title_in}
use Rattle.blif_linking.specs.Names.{Says, Places, entries_from, names_in, number_placed, placed}
use Rattle.blif_linking.specs.Numbering.{joined_as, joined_by, joined_for, joined_one, number_in, numbered_among, numbered_within, placement_in, renumbered, woven}
use Rattle.blif_linking.specs.Offers.{interface_in}
use Rattle.blif_linking.proofs.Connecting.{Agree, AllOffer, Numbers, placed-agree, read-offers, same-number}
use Rattle.blif_linking.proofs.Indexes.{drop-get}
use Rattle.blif_linking.proofs.Offering.{Offers}
use Rattle.blif_linking.proofs.Freeing.{said-drop, said-take}

-- the own lines of a model
words-numbered : (own names : List (List ℕ)) (words : List PlacedToken) → HoldAll own words
    → map (slice_index (map (number_in names) own)) (map (number_of own) words) ≡ map (number_of names) words
words-numbered own names [] held = refl
words-numbered own names (word ∷ words) held =
    let n = held.0.0 in
    let within : n < length own = place_of-within own word.text n held.0.1 in
    let here : slice_index (map (number_in names) own) (number_of own word) ≡ number_of names word =
    ap (λ place. slice_index (map (number_in names) own) (number_at place)) held.0.1
    ∙ get_or-map (number_in names) own n [] 0 within
    ∙ ap (number_in names) (text-placed own word.text n held.0.1) in
    ap (λ number. number ∷ map (slice_index (map (number_in names) own)) (map (number_of own) words)) here
    ∙ ap (λ numbers. number_of names word ∷ numbers) (words-numbered own names words held.1)

lines-numbered : (parts : List (Part Model)) (part : Part Model) (own : List (List ℕ)) (statements : List Statement) → HoldSaid own statements
    → map (renumbered (map (number_in (names_in parts part)) own)) (items_of own statements) ≡ map (item_of parts part) (map Says statements)
lines-numbered parts part own [] held = refl
lines-numbered parts part own (statement ∷ statements) held =
    let names = names_in parts part in
    let numbers = map (number_in names) own in
    ap (λ (mentions : List ℕ). Own (record { mentions = mentions; kind = kind_of statement }) ∷ map (renumbered numbers) (items_of own statements))
    (words-numbered own names (words_in statement) held.0)
    ∙ ap (λ (items : List (Item ModelLine)). Own (line_of names statement) ∷ items) (lines-numbered parts part own statements held.1)

-- connections
role-joined : (parts : List (Part Model)) (part model : Part Model) (link : Link) (role : Option Role)
    → joined_as (names_in parts model) (names_in parts part) link role ≡ joined_by_role parts part model link role
role-joined parts part model link (Some Input) = refl
role-joined parts part model link (Some Output) = refl
role-joined parts part model link (Some Clock) = refl
role-joined parts part model link None = refl

link-joined : (interface : Interface) (parts : List (Part Model)) (part model : Part Model) (link : Option Link) → Offers interface model
    → joined_one interface (names_in parts model) (names_in parts part) link ≡ joined_link parts part model link
link-joined interface parts part model None offer = refl
link-joined interface parts part model (Some link) offer =
    ap (joined_as (names_in parts model) (names_in parts part) link) (offer.roles link.formal)
    ∙ role-joined parts part model link (role_of model link.formal)

words-joined : (interface : Interface) (parts : List (Part Model)) (part model : Part Model) (words : List PlacedToken) → Offers interface model
    → joined_by interface (names_in parts model) (names_in parts part) words ≡ joined_all parts part (Some model) words
words-joined interface parts part model [] offer = refl
words-joined interface parts part model (word ∷ words) offer =
    ap (λ (list : List Connection). list ++ joined_by interface (names_in parts model) (names_in parts part) words)
    (link-joined interface parts part model (link_of word.text) offer)
    ∙ ap (λ (rest : List Connection). joined_link parts part model (link_of word.text) ++ rest) (words-joined interface parts part model words offer)

-- the names of a model by its number
names-at : (parts all : List (Part Model)) (n : ℕ) (model : Part Model) → slice_get parts n ≡ Some model
    → slice_index_or (map (names_in all) parts) n [] ≡ names_in all model
names-at [] all n model is = cc
names-at (part ∷ parts) all zero model is = let same : part ≡ model = cc in ap (names_in all) same
names-at (part ∷ parts) all (suc n) model is = names-at parts all n model is

number-joined : (interface : Option Interface) (parts : List (Part Model)) (part : Part Model) (number : Option ℕ) (model : Option (Part Model)) (words : List PlacedToken)
    → option_and_then (slice_get parts) number ≡ model → Agree interface model
    → joined_for interface (slice_index_or (linked_texts parts) (number_at number) []) (names_in parts part) words ≡ joined_all parts part model words
number-joined None parts part number None words is agree = refl
number-joined None parts part number (Some model) words is agree = absurd agree
number-joined (Some interface) parts part number None words is agree = absurd agree
number-joined (Some interface) parts part None (Some model) words is agree = cc
number-joined (Some interface) parts part (Some n) (Some model) words is agree =
    ap (λ formals. joined_by interface formals (names_in parts part) words) (names-at parts parts n model is)
    ∙ words-joined interface parts part model words agree

placing-numbered : (number : List ℕ → Option ℕ) (interfaces : List Interface) (parts : List (Part Model)) (part : Part Model) (placing : Placing) → Numbers number parts
    → AllOffer interfaces parts → placement_in number interfaces (linked_texts parts) (names_in parts part) placing ≡ item_of parts part (Places placing)
placing-numbered number interfaces parts part placing same all =
    let title = title_in placing.words in
    let words = connections_in placing.words in
    let by = λ (n : Option ℕ). Place (record {
      model = number_at n;
      connections = joined_for (offered number interfaces title) (slice_index_or (linked_texts parts) (number_at n) []) (names_in parts part) words;
    }) in
    ap by (same-number number (model_named parts) same title)
    ∙ ap (λ (connections : List Connection). Place (record { model = number_at (number_placed parts placing); connections = connections }))
    (number-joined (offered number interfaces title) parts part (number_placed parts placing) (placed parts placing) words refl
    (placed-agree number interfaces parts placing same all))

module _ (number : List ℕ → Option ℕ) (interfaces : List Interface) (parts : List (Part Model)) (same : Numbers number parts) (all : AllOffer interfaces parts) (part : Part Model) where
  woven-numbered : (own : List (List ℕ)) (before : ℕ) (statements : List Statement) (placings : List Placing) → HoldSaid own statements
      → woven (map (number_in (names_in parts part)) own) before (items_of own statements) placings
      (map (placement_in number interfaces (linked_texts parts) (names_in parts part)) placings)
      ≡ map (item_of parts part) (entries_from before statements placings)
  woven-numbered own before statements [] held = lines-numbered parts part own statements held
  woven-numbered own before statements (placing ∷ placings) held =
      let k = placing.before - before in
      let names = names_in parts part in
      let numbers = map (number_in names) own in
      let place = placement_in number interfaces (linked_texts parts) names in
      let rest = entries_from placing.before (drop k statements) placings in
      let by = λ (lines later : List (Item ModelLine)). map (renumbered numbers) lines ++ place placing ∷ woven numbers placing.before later placings (map place placings) in
      ap (λ (lines : List (Item ModelLine)). by lines (drop k (items_of own statements))) (take-map (λ (statement : Statement). Own (line_of own statement)) k statements)
      ∙ ap (by (items_of own (take k statements))) (drop-map (λ (statement : Statement). Own (line_of own statement)) k statements)
      ∙ ap (λ (lines : List (Item ModelLine)). lines ++ place placing ∷ woven numbers placing.before (items_of own (drop k statements)) placings (map place placings))
      (lines-numbered parts part own (take k statements) (said-take own k statements held))
      ∙ ap (λ (item : Item ModelLine). map (item_of parts part) (map Says (take k statements)) ++ item ∷ woven numbers placing.before (items_of own (drop k statements)) placings (map place placings))
      (placing-numbered number interfaces parts part placing same all)
      ∙ ap (λ (items : List (Item ModelLine)). map (item_of parts part) (map Says (take k statements)) ++ item_of parts part (Places placing) ∷ items)
      (woven-numbered own placing.before (drop k statements) placings (said-drop own k statements held))
      ∙ sym (map-append (item_of parts part) (map Says (take k statements)) (Places placing ∷ rest))

among-numbered : (whole : List ℕ) (size most : ℕ) (number : List ℕ → Option ℕ) (interfaces : List Interface) (parts some : List (Part Model)) → Numbers number parts → AllOffer interfaces parts
    → PartsHold size some most
    → numbered_among number interfaces (linked_texts parts) (map (names_in parts) some) (map (numbered_part whole) some) ≡ map (linked_model parts) some
among-numbered whole size most number interfaces parts [] same all hold = refl
among-numbered whole size most number interfaces parts (part ∷ some) same all hold =
    let rest = numbered_among number interfaces (linked_texts parts) (map (names_in parts) some) (map (numbered_part whole) some) in
    ap (λ (items : List (Item ModelLine)). record { names = length (names_in parts part); items = items } ∷ rest)
    (woven-numbered number interfaces parts same all part (names_of part.own.mentions) 0 part.own.statements part.placings (said-held part.own hold.0.own.mentions))
    ∙ ap (λ (models : List (NumberedModel ModelLine)). linked_model parts part ∷ models) (among-numbered whole size most number interfaces parts some same all hold.1)

pub linked-is : (whole : List ℕ) (text : FileText) (interfaces : List Interface) (texts : List (List (List ℕ))) (parts : List (Part Model)) → interfaces ≡ map (interface_in whole) text.models
    → IsReadAs whole text parts → texts ≡ linked_texts parts
    → numbered_among (place_of text.titles) interfaces texts texts (map (part_in whole) text.models) ≡ linked parts
linked-is whole text interfaces texts parts are read names =
    ap (λ list. numbered_among (place_of text.titles) interfaces list list (map (part_in whole) text.models)) names
    ∙ ap (λ (list : List (Part OwnLines)). numbered_among (place_of text.titles) interfaces (linked_texts parts) (linked_texts parts) list) read.1.0
    ∙ among-numbered whole (length whole) (length whole) (place_of text.titles) interfaces parts parts read.1.1
    (subst (λ list. AllOffer list parts) (sym are) (read-offers whole text parts read)) (parts-hold whole parts read.0)

-- one model more
pub among-step : (number : List ℕ → Option ℕ) (interfaces : List Interface) (texts : List (List (List ℕ))) (n : ℕ) (names : List (List ℕ)) (part : Part OwnLines)
    (old new : List (Part OwnLines)) (model : NumberedModel ModelLine) (all linked_so more : List (NumberedModel ModelLine))
    → all ≡ linked_so ++ numbered_among number interfaces texts (drop n texts) old → slice_get texts n ≡ Some names → old ≡ part ∷ new
    → model ≡ numbered_within number interfaces texts names part → more ≡ linked_so ++ model ∷ []
    → all ≡ more ++ numbered_among number interfaces texts (drop (n + 1) texts) new
among-step number interfaces texts n names part old new model all linked_so more is at first made grown =
    let rest = numbered_among number interfaces texts (drop (suc n) texts) new in
    rw add-one (is
    ∙ ap (λ list. linked_so ++ numbered_among number interfaces texts list old) (drop-get texts n names at)
    ∙ ap (λ (list : List (Part OwnLines)). linked_so ++ numbered_among number interfaces texts (names ∷ drop (suc n) texts) list) first
    ∙ ap (λ (m : NumberedModel ModelLine). linked_so ++ m ∷ rest) (sym made)
    ∙ sym (append_assoc linked_so (model ∷ []) rest)
    ∙ ap (λ (list : List (NumberedModel ModelLine)). list ++ rest) (sym grown))
