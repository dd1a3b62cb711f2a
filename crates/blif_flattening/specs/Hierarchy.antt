-- Hierarchies of models: instances as paths, the signal of a name, and the lines of all instances in flat order.
use Rattle.std.specs.Prelude.{◌≡◌, ℕ, zero, suc, ◌==◌, cond, List, [], ◌∷◌, ◌++◌, map, Option, None, Some, slice_get, option_and_then}
use Rattle.std.specs.List.{flat_map}
use Rattle.blif_flattening.specs.declared.model.Connection.{Connection}
use Rattle.blif_flattening.specs.declared.model.Placement.{Placement}
use Rattle.blif_flattening.specs.declared.model.Item.{Item}
use Rattle.blif_flattening.specs.declared.model.Item.TheVariants.{Own, Place}
use Rattle.blif_flattening.specs.declared.model.Model.{Model}
use Rattle.blif_flattening.specs.declared.model.Signal.{Signal}
use Rattle.blif_flattening.specs.declared.model.TheConstants.{DEEPEST}

-- an instance: the numbers of the placements that lead to it from the top, the last one first
abbrev pub Path : Type 0
Path = List ℕ

-- what the model of a number lists
abbrev pub items_of : {Line : Type 0} → List (Model Line) → ℕ → List (Item Line)
items_of [] model = []
items_of (first ∷ models) zero = first.items
items_of (first ∷ models) (suc model) = items_of models model

-- the placements among what a model lists
abbrev pub placements_in : {Line : Type 0} → List (Item Line) → List Placement
placements_in [] = []
placements_in (Own line ∷ items) = placements_in items
placements_in (Place placement ∷ items) = placement ∷ placements_in items

-- the placement of a number, counted from 0, in the model of a number
abbrev pub placement_of : {Line : Type 0} → List (Model Line) → ℕ → ℕ → Option Placement
placement_of models model k = slice_get (placements_in (items_of models model)) k

-- the model that a placement names; the top where there is no placement
abbrev pub placed_model : Option Placement → ℕ
placed_model None = 0
placed_model (Some placement) = placement.model

-- the model of an instance
abbrev pub model_at : {Line : Type 0} → List (Model Line) → Path → ℕ
model_at models [] = 0
model_at models (k ∷ path) = placed_model (placement_of models (model_at models path) k)

-- what the model of an instance lists
abbrev pub items_at : {Line : Type 0} → List (Model Line) → Path → List (Item Line)
items_at models path = items_of models (model_at models path)

-- the placement of a number in the model of an instance
abbrev pub placement_at : {Line : Type 0} → List (Model Line) → Path → ℕ → Option Placement
placement_at models path k = placement_of models (model_at models path) k

-- the top is an instance, and each placement in an instance makes one
abbrev pub IsInstance : {Line : Type 0} → List (Model Line) → Path → Type 0
IsInstance models [] = Unit {0}
IsInstance models (k ∷ path) =
    IsInstance models path × ((placement : Placement) × (placement_at models path k ≡ Some placement))

-- what a formal is connected with: the actual of the first connection that names it
abbrev pub actual_in : List Connection → ℕ → Option ℕ
actual_in [] formal = None
actual_in (connection ∷ connections) formal =
    cond (connection.formal == formal) (Some connection.actual) (actual_in connections formal)

-- what a name is connected with by a placement in an instance
abbrev pub actual_of : {Line : Type 0} → List (Model Line) → Path → ℕ → ℕ → Option ℕ
actual_of models path k formal =
    option_and_then (λ placement. actual_in placement.connections formal) (placement_at models path k)

-- the signal of a name that is connected with another one, or is not
abbrev pub owner_by : (ℕ → Signal) → Path → ℕ → Option ℕ → Signal
owner_by above path name None = record { path = path; name = name }
owner_by above path name (Some actual) = above actual

-- the signal of a name of an instance: a connected formal is its actual's signal, and any other name is one of its own
abbrev pub owner : {Line : Type 0} → List (Model Line) → Path → ℕ → Signal
owner models [] name = record { path = []; name = name }
owner models (k ∷ path) name = owner_by (owner models path) (k ∷ path) name (actual_of models path k name)

-- a line of an instance
abbrev pub Placed : Type 0 → Type 0
Placed Line = Path × Line

-- the lines of an instance, with those of the instances below it in the place of each placement
abbrev pub lines_by : {Line : Type 0} → (Path → List (Placed Line)) → Path → ℕ → List (Item Line) → List (Placed Line)
lines_by below path k [] = []
lines_by below path k (Own line ∷ items) = (path, line) ∷ lines_by below path k items
lines_by below path k (Place placement ∷ items) = below (k ∷ path) ++ lines_by below path (suc k) items

-- the lines of an instance and of those below it, so many levels deep
abbrev pub expand : {Line : Type 0} → List (Model Line) → ℕ → Path → List (Placed Line)
expand models zero path = []
expand models (suc levels) path = lines_by (expand models levels) path 0 (items_at models path)

-- the lines of all instances, in flat order
unfoldable pub flat_lines : {Line : Type 0} → List (Model Line) → List (Placed Line)
flat_lines models = expand models DEEPEST []

-- the signals that a line of an instance mentions
abbrev pub mentioned_by : {Line : Type 0} → (Line → List ℕ) → List (Model Line) → Placed Line → List Signal
mentioned_by mentions models placed = map (owner models placed.0) (mentions placed.1)

-- and those that lines of instances mention, in order
abbrev pub mentioned : {Line : Type 0} → (Line → List ℕ) → List (Model Line) → List (Placed Line) → List Signal
mentioned mentions models lines = flat_map (mentioned_by mentions models) lines
