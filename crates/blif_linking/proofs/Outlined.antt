-- The outline of the models of a text is that of the models that are linked.
use Rattle.std.proofs.Common.{◌≡◌, ℕ, ◌-◌, List, [], ◌∷◌, ◌++◌, map, take, drop, Option, refl, sym, ap, ◌∙◌}
use Rattle.std.proofs.lemmas.List.{map-append}
use Rattle.blif_flattening.specs.declared.model.Item.{Item}
use Rattle.blif_flattening.specs.declared.model.Item.TheVariants.{Own, Place}
use Rattle.blif_flattening.specs.declared.model.Model.{Model as NumberedModel}
use Rattle.blif_flattening.specs.Hierarchy.{placements_in}
use Rattle.blif_model.specs.declared.file.FileText.{FileText}
use Rattle.blif_model.specs.declared.line.ModelLine.{ModelLine}
use Rattle.blif_model.specs.FileKnown.{OwnLines, numbered_part, part_in}
use Rattle.blif_model.specs.Files.{Part, Placing, model_named}
use Rattle.blif_model.specs.Models.{Model, Statement}
use Rattle.blif_model.specs.Names.{number_at, place_of}
use Rattle.blif_linking.specs.Bad.{IsReadAs}
use Rattle.blif_linking.specs.Bare.{bare, bare_item, bare_model, outlined_part, outlined_placing}
use Rattle.blif_linking.specs.Linked.{item_of, linked, linked_model}
use Rattle.blif_linking.specs.Links.{title_in}
use Rattle.blif_linking.specs.Names.{Says, Places, entries_from}
use Rattle.blif_linking.proofs.Connecting.{same-number}

placed-behind : (items others : List (Item ModelLine)) → placements_in items ≡ [] → placements_in (items ++ others) ≡ placements_in others
placed-behind [] others none = refl
placed-behind (Own line ∷ items) others none = placed-behind items others none
placed-behind (Place placement ∷ items) others none = cc

module _ (parts : List (Part Model)) (part : Part Model) where
  lines-place : (statements : List Statement) → placements_in (map (item_of parts part) (map Says statements)) ≡ []
  lines-place [] = refl
  lines-place (statement ∷ statements) = lines-place statements

  placings-bare : (before : ℕ) (statements : List Statement) (placings : List Placing)
      → map bare_item (placements_in (map (item_of parts part) (entries_from before statements placings))) ≡ map (outlined_placing (model_named parts)) placings
  placings-bare before statements [] = ap (map bare_item) (lines-place statements)
  placings-bare before statements (placing ∷ placings) =
      let k = placing.before - before in
      let lines = map (item_of parts part) (map Says (take k statements)) in
      let rest = entries_from placing.before (drop k statements) placings in
      ap (λ (items : List (Item ModelLine)). map bare_item (placements_in items)) (map-append (item_of parts part) (map Says (take k statements)) (Places placing ∷ rest))
      ∙ ap (map bare_item) (placed-behind lines (item_of parts part (Places placing) ∷ map (item_of parts part) rest) (lines-place (take k statements)))
      ∙ ap (λ (items : List (Item ModelLine)). outlined_placing (model_named parts) placing ∷ items) (placings-bare placing.before (drop k statements) placings)

parts-bare : (parts some : List (Part Model)) → map (outlined_part (model_named parts)) some ≡ bare (map (linked_model parts) some)
parts-bare parts [] = refl
parts-bare parts (part ∷ some) =
    ap (λ (items : List (Item ModelLine)). record { names = 0; items = items } ∷ map (outlined_part (model_named parts)) some)
    (sym (placings-bare parts part 0 part.own.statements part.placings))
    ∙ ap (λ (rest : List (NumberedModel ModelLine)). bare_model (linked_model parts part) ∷ rest) (parts-bare parts some)

-- by other numbers that are the same
placings-same : (one other : List ℕ → Option ℕ) (placings : List Placing) → ((name : List ℕ) → one name ≡ other name)
    → map (outlined_placing one) placings ≡ map (outlined_placing other) placings
placings-same one other [] same = refl
placings-same one other (placing ∷ placings) same =
    ap (λ (n : Option ℕ). Place (record { model = number_at n; connections = [] }) ∷ map (outlined_placing one) placings) (same-number one other same (title_in placing.words))
    ∙ ap (λ (items : List (Item ModelLine)). outlined_placing other placing ∷ items) (placings-same one other placings same)

parts-same : (whole : List ℕ) (one other : List ℕ → Option ℕ) (parts : List (Part Model)) → ((name : List ℕ) → one name ≡ other name)
    → map (outlined_part {Own = OwnLines} one) (map (numbered_part whole) parts) ≡ map (outlined_part other) parts
parts-same whole one other [] same = refl
parts-same whole one other (part ∷ parts) same =
    ap (λ (items : List (Item ModelLine)). record { names = 0; items = items } ∷ map (outlined_part {Own = OwnLines} one) (map (numbered_part whole) parts))
    (placings-same one other part.placings same)
    ∙ ap (λ (rest : List (NumberedModel ModelLine)). outlined_part other part ∷ rest) (parts-same whole one other parts same)

pub outline-is : (whole : List ℕ) (text : FileText) (parts : List (Part Model)) → IsReadAs whole text parts
    → map (outlined_part (place_of text.titles)) (map (part_in whole) text.models) ≡ bare (linked parts)
outline-is whole text parts read =
    ap (map (outlined_part (place_of text.titles))) read.1.0
    ∙ parts-same whole (place_of text.titles) (model_named parts) parts read.1.1 ∙ parts-bare parts parts
