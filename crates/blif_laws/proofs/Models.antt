-- The models of a text by number, and what they list.
use Rattle.std.proofs.Common.{◌≡◌, ℕ, zero, suc, [], ◌∷◌, length, map, slice_get, None, Some, refl, ap, ◌∙◌, ⊎_elim}
use Rattle.blif_flattening.specs.declared.model.Item.{Item}
use Rattle.blif_flattening.specs.declared.model.Item.TheVariants.{Own, Place}
use Rattle.blif_flattening.specs.declared.model.Placement.{Placement}
use Rattle.blif_flattening.specs.Hierarchy.{items_of}
use Rattle.blif_flattening.specs.Instances.{names_of}
use Rattle.blif_flattening.specs.Members.{Among}
use Rattle.blif_flattening.proofs.Members.{from_map}
use Rattle.blif_model.specs.declared.line.ModelLine.{ModelLine}
use Rattle.blif_model.specs.Files.{Part, Placing}
use Rattle.blif_model.specs.Models.{Model, Statement}
use Rattle.blif_model.specs.Names.{number_at}
use Rattle.blif_model.specs.Numbered.{line_of}
use Rattle.blif_linking.specs.Linked.{item_of, joined_all, linked, linked_model, linked_texts}
use Rattle.blif_linking.specs.Links.{connections_in}
use Rattle.blif_linking.specs.Names.{Entry, Parts, entries_of, names_in, number_placed, placed}
use Rattle.blif_flat.specs.Flat.{texts_at}
use Rattle.blif_laws.proofs.Entries.{entry-of}

-- what a `.subckt` of a model places
abbrev pub placement_by : Parts → Part Model → Placing → Placement
placement_by parts part placing = record {
  model = number_at (number_placed parts placing);
  connections = joined_all parts part (placed parts placing) (connections_in placing.words);
}

-- an item of a model, and the entry that it is of
record IsItem (all parts : Parts) (m : ℕ) (item : Item ModelLine) : Type 0 where
  part : Part Model
  at : slice_get parts m ≡ Some part
  entry : Entry
  there : Among entry (entries_of part)
  is : item_of all part entry ≡ item

module _ (all : Parts) where
  items-get : (parts : Parts) (m : ℕ) (part : Part Model) → slice_get parts m ≡ Some part → items_of (map (linked_model all) parts) m ≡ map (item_of all part) (entries_of part)
  items-get [] m part is = cc
  items-get (first ∷ parts) zero part is =
      let same : first ≡ part = cc in ap (λ (p : Part Model). map (item_of all p) (entries_of p)) same
  items-get (first ∷ parts) (suc m) part is = items-get parts m part is

  names-get : (parts : Parts) (m : ℕ) (part : Part Model) → slice_get parts m ≡ Some part → names_of (map (linked_model all) parts) m ≡ length (names_in all part)
  names-get [] m part is = cc
  names-get (first ∷ parts) zero part is =
      let same : first ≡ part = cc in ap (λ (p : Part Model). length (names_in all p)) same
  names-get (first ∷ parts) (suc m) part is = names-get parts m part is

  none-get : (parts : Parts) (m : ℕ) → slice_get parts m ≡ None → (items_of (map (linked_model all) parts) m ≡ []) × (names_of (map (linked_model all) parts) m ≡ 0)
  none-get [] m is = (refl, refl)
  none-get (first ∷ parts) zero is = cc
  none-get (first ∷ parts) (suc m) is = none-get parts m is

  texts-get : (parts : Parts) (m : ℕ) → length (texts_at (map (names_in all) parts) m) ≡ names_of (map (linked_model all) parts) m
  texts-get [] m = refl
  texts-get (first ∷ parts) zero = refl
  texts-get (first ∷ parts) (suc m) = texts-get parts m

  item-from : (parts : Parts) (m : ℕ) (item : Item ModelLine) → Among item (items_of (map (linked_model all) parts) m) → IsItem all parts m item
  item-from [] m item none = absurd none
  item-from (first ∷ parts) zero item there =
      let by = from_map (item_of all first) item (entries_of first) there in
      record { part = first; at = refl; entry = by.0; there = by.1; is = by.2 }
  item-from (first ∷ parts) (suc m) item there =
      let rest = item-from parts m item there in
      record { part = rest.part; at = rest.at; entry = rest.entry; there = rest.there; is = rest.is }

module _ (parts : Parts) where
  pub linked-items : (m : ℕ) (part : Part Model) → slice_get parts m ≡ Some part → items_of (linked parts) m ≡ map (item_of parts part) (entries_of part)
  linked-items m part is = items-get parts parts m part is

  pub linked-names : (m : ℕ) (part : Part Model) → slice_get parts m ≡ Some part → names_of (linked parts) m ≡ length (names_in parts part)
  linked-names m part is = names-get parts parts m part is

  pub linked-none : (m : ℕ) → slice_get parts m ≡ None → (items_of (linked parts) m ≡ []) × (names_of (linked parts) m ≡ 0)
  linked-none m is = none-get parts parts m is

  pub linked-titled : (m : ℕ) → length (texts_at (linked_texts parts) m) ≡ names_of (linked parts) m
  linked-titled m = texts-get parts parts m

  -- a line of a model is one of its statements
  pub record IsLineOf (m : ℕ) (line : ModelLine) : Type 0 where
    pub part : Part Model
    pub at : slice_get parts m ≡ Some part
    pub statement : Statement
    pub there : Among statement part.own.statements
    pub is : line_of (names_in parts part) statement ≡ line

  pub line-from : (m : ℕ) (line : ModelLine) → Among (Own line) (items_of (linked parts) m) → IsLineOf m line
  line-from m line there =
      let by = item-from parts parts m (Own line) there in
      ⊎_elim
      (λ says.
      let item : ◌≡◌ {A = Item ModelLine} (Own (line_of (names_in parts by.part) says.0)) (Own line) = ap (item_of parts by.part) says.2 ∙ by.is in
      record { part = by.part; at = by.at; statement = says.0; there = says.1; is = (let same : line_of (names_in parts by.part) says.0 ≡ line = cc in same) })
      (λ places.
      let item : ◌≡◌ {A = Item ModelLine} (Place (placement_by parts by.part places.0)) (Own line) = ap (item_of parts by.part) places.2 ∙ by.is in
      absurd (no-line (placement_by parts by.part places.0) line item))
      (entry-of 0 by.part.own.statements by.part.placings by.entry by.there)
    where
      no-line : (placement : Placement) (line : ModelLine) → ◌≡◌ {A = Item ModelLine} (Place placement) (Own line) → ⊥
      no-line placement line is = cc

  -- and a placement is of one of its `.subckt`s
  pub record IsPlacementOf (m : ℕ) (placement : Placement) : Type 0 where
    pub part : Part Model
    pub at : slice_get parts m ≡ Some part
    pub placing : Placing
    pub there : Among placing part.placings
    pub is : placement_by parts part placing ≡ placement

  pub placement-from : (m : ℕ) (placement : Placement) → Among (Place placement) (items_of (linked parts) m) → IsPlacementOf m placement
  placement-from m placement there =
      let by = item-from parts parts m (Place placement) there in
      ⊎_elim
      (λ says.
      let item : ◌≡◌ {A = Item ModelLine} (Own (line_of (names_in parts by.part) says.0)) (Place placement) = ap (item_of parts by.part) says.2 ∙ by.is in
      absurd (no-place (line_of (names_in parts by.part) says.0) placement item))
      (λ places.
      let item : ◌≡◌ {A = Item ModelLine} (Place (placement_by parts by.part places.0)) (Place placement) = ap (item_of parts by.part) places.2 ∙ by.is in
      record { part = by.part; at = by.at; placing = places.0; there = places.1; is = (let same : placement_by parts by.part places.0 ≡ placement = cc in same) })
      (entry-of 0 by.part.own.statements by.part.placings by.entry by.there)
    where
      no-place : (line : ModelLine) (placement : Placement) → ◌≡◌ {A = Item ModelLine} (Own line) (Place placement) → ⊥
      no-place line placement is = cc
