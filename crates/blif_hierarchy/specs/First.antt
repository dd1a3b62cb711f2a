-- The first placement, in the order of models and of the placements in each, of which something is so.
use Rattle.std.specs.Prelude.{◌≡◌, ℕ, ◌<◌, ◌⊎◌, Option, None, Some, List, length}
use Rattle.blif_flattening.specs.declared.model.Item.TheVariants.{Place}
use Rattle.blif_flattening.specs.declared.model.Placement.{Placement}
use Rattle.blif_flattening.specs.declared.model.Model.{Model}
use Rattle.blif_flattening.specs.Hierarchy.{items_of}
use Rattle.blif_flattening.specs.Members.{Among}
use Rattle.blif_hierarchy.specs.declared.place.PlacementAt.{PlacementAt}

-- each model that is placed is one of them
abbrev pub IsClosed : {Line : Type 0} → List (Model Line) → Type 0
IsClosed models = (model : ℕ) (placement : Placement) → Among (Place placement) (items_of models model) → placement.model < length models

-- a placement stands before another one: in an earlier model, or earlier in its model
abbrev pub Before : ℕ → ℕ → ℕ → ℕ → Type 0
Before model k other j = (model < other) ⊎ ((model ≡ other) × (k < j))

-- of all placements of which something is so, one is the first
pub record IsFirst (Holds : ℕ → ℕ → Type 0) (model k : ℕ) : Type 0 where
  pub holds : Holds model k
  pub first : (other j : ℕ) → Before other j model k → Holds other j → ⊥

-- the first placement of which something is so, or that there is none
abbrev pub Finds : (ℕ → ℕ → Type 0) → Option PlacementAt → Type 0
Finds Holds None = (model k : ℕ) → Holds model k → ⊥
Finds Holds (Some found) = IsFirst Holds found.model found.placement
