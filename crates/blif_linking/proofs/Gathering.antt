-- The names of a model by what the models offer are those of its text.
use Rattle.std.proofs.Common.{◌≡◌, ℕ, ◌-◌, List, [], ◌∷◌, ◌++◌, length, map, take, drop, fold, Option, refl, sym, ap, ◌∙◌, subst}
use Rattle.std.proofs.lemmas.List.{drop-map, take-map}
use Rattle.std.proofs.lemmas.List.Sums.{fold-append}
use Rattle.std.specs.List.{flat_map}
use Rattle.blif_flattening.specs.declared.model.Item.{Item}
use Rattle.blif_flattening.specs.declared.model.Item.TheVariants.{Own}
use Rattle.blif_model.specs.declared.file.FileText.{FileText}
use Rattle.blif_model.specs.declared.line.ModelLine.{ModelLine}
use Rattle.blif_model.specs.FileKnown.{OwnLines, numbered_part, part_in}
use Rattle.blif_model.specs.Files.{Part, Placing}
use Rattle.blif_model.specs.Models.{Mention, Model, Statement, names_of, with_name}
use Rattle.blif_model.specs.Names.{number_of, place_of}
use Rattle.blif_model.specs.Numbered.{items_of, line_of, words_in}
use Rattle.blif_model.proofs.Held.{PartsHold, parts-hold}
use Rattle.blif_model.proofs.Knowing.{HoldSaid, words_of_mentions}
use Rattle.blif_model.proofs.Mentioned.{all_mentions, mentions_in}
use Rattle.blif_model.proofs.Saying.{said-held, texts-placed, words-said}
use Rattle.blif_linking.specs.declared.interface.Interface.{Interface}
use Rattle.blif_linking.specs.Actuals.{mentions_at}
use Rattle.blif_linking.specs.Bad.{IsReadAs}
use Rattle.blif_linking.specs.Linked.{linked_texts}
use Rattle.blif_linking.specs.Names.{entries_from, mentions_entered, mentions_placed, names_in}
use Rattle.blif_linking.specs.Naming.{named_by, named_from, named_in, named_within}
use Rattle.blif_linking.specs.Offers.{interface_in}
use Rattle.blif_linking.specs.Sets.{gathered, text_at}
use Rattle.blif_linking.proofs.Connecting.{AllOffer, Numbers, placed-mention, read-offers}
use Rattle.blif_linking.proofs.Freeing.{flat-entries, flat-said, said-drop, said-take}

-- names with those of mentions
abbrev with_mentioned : List (List ℕ) → Mention → List (List ℕ)
with_mentioned names mention = with_name names mention.word.text

abbrev mentioned_in : List (List ℕ) → List Mention → List (List ℕ)
mentioned_in names mentions = fold with_mentioned names mentions

gather-same : (names : List (List ℕ)) (mentions : List Mention) → mentioned_in names mentions ≡ gathered names (map (λ word. word.text) (words_of_mentions mentions))
gather-same names [] = refl
gather-same names (mention ∷ mentions) = gather-same (with_mentioned names mention) mentions

lines-named : (own names : List (List ℕ)) (statements : List Statement) → HoldSaid own statements
    → named_in own names (items_of own statements) ≡ mentioned_in names (all_mentions statements)
lines-named own names [] held = refl
lines-named own names (statement ∷ statements) held =
    let texts = map (text_at own) (map (number_of own) (words_in statement)) in
    lines-named own (gathered names texts) statements held.1
    ∙ ap (λ (list : List (List ℕ)). mentioned_in list (all_mentions statements))
    (ap (gathered names) (texts-placed own (words_in statement) held.0 ∙ ap (map (λ word. word.text)) (sym (words-said statement)))
    ∙ sym (gather-same names (mentions_in statement)))
    ∙ sym (fold-append with_mentioned names (mentions_in statement) (all_mentions statements))

mentions-named : (names : List (List ℕ)) (mentions : List Mention) → named_by names mentions ≡ mentioned_in names mentions
mentions-named names [] = refl
mentions-named names (mention ∷ mentions) = mentions-named (with_mentioned names mention) mentions

module _ (own : List (List ℕ)) (number : List ℕ → Option ℕ) (interfaces : List Interface) (parts : List (Part Model)) (same : Numbers number parts) (all : AllOffer interfaces parts) where
  entries-named : (names : List (List ℕ)) (before : ℕ) (statements : List Statement) (placings : List Placing) → HoldSaid own statements
      → named_from own number interfaces names before (items_of own statements) placings
      ≡ mentioned_in names (flat_map (mentions_entered parts) (entries_from before statements placings))
  entries-named names before statements [] held =
      lines-named own names statements held ∙ ap (mentioned_in names) (sym (flat-said parts statements))
  entries-named names before statements (placing ∷ placings) held =
      let k = placing.before - before in
      let chunk = all_mentions (take k statements) in
      let here = mentions_placed parts placing in
      let rest = flat_map (mentions_entered parts) (entries_from placing.before (drop k statements) placings) in
      let there = mentions_at number interfaces placing in
      let by = λ (list : List (Item ModelLine)) (later : List (Item ModelLine)).
      named_from own number interfaces (named_by (named_in own names list) there) placing.before later placings in
      ap (λ (list : List (Item ModelLine)). by list (drop k (items_of own statements))) (take-map (λ (statement : Statement). Own (line_of own statement)) k statements)
      ∙ ap (by (items_of own (take k statements))) (drop-map (λ (statement : Statement). Own (line_of own statement)) k statements)
      ∙ ap (λ (list : List (List ℕ)). named_from own number interfaces list placing.before (items_of own (drop k statements)) placings)
      (ap (λ (list : List (List ℕ)). named_by list there) (lines-named own names (take k statements) (said-take own k statements held))
      ∙ ap (named_by (mentioned_in names chunk)) (placed-mention number interfaces parts placing same all)
      ∙ mentions-named (mentioned_in names chunk) here)
      ∙ entries-named (mentioned_in (mentioned_in names chunk) here) placing.before (drop k statements) placings (said-drop own k statements held)
      ∙ sym (fold-append with_mentioned (mentioned_in names chunk) here rest)
      ∙ sym (fold-append with_mentioned names chunk (here ++ rest))
      ∙ ap (mentioned_in names) (sym (flat-entries parts before statements placing placings))

among-named : (whole : List ℕ) (size most : ℕ) (number : List ℕ → Option ℕ) (interfaces : List Interface) (parts some : List (Part Model)) → Numbers number parts → AllOffer interfaces parts
    → PartsHold size some most → map (named_within number interfaces) (map (numbered_part whole) some) ≡ map (names_in parts) some
among-named whole size most number interfaces parts [] same all hold = refl
among-named whole size most number interfaces parts (part ∷ some) same all hold =
    ap (λ names. names ∷ map (named_within number interfaces) (map (numbered_part whole) some))
    (entries-named (names_of part.own.mentions) number interfaces parts same all [] 0 part.own.statements part.placings (said-held part.own hold.0.own.mentions))
    ∙ ap (λ rest. names_in parts part ∷ rest) (among-named whole size most number interfaces parts some same all hold.1)

pub named-is : (whole : List ℕ) (text : FileText) (interfaces : List Interface) (parts : List (Part Model)) → interfaces ≡ map (interface_in whole) text.models
    → IsReadAs whole text parts → map (named_within (place_of text.titles) interfaces) (map (part_in whole) text.models) ≡ linked_texts parts
named-is whole text interfaces parts are read =
    ap (λ (list : List (Part OwnLines)). map (named_within (place_of text.titles) interfaces) list) read.1.0
    ∙ among-named whole (length whole) (length whole) (place_of text.titles) interfaces parts parts read.1.1
    (subst (λ list. AllOffer list parts) (sym are) (read-offers whole text parts read)) (parts-hold whole parts read.0)
