-- What drives the names of a model: its lines, the placements in it, or, where they are inputs, what places it.
use Rattle.std.specs.Prelude.{◌≡◌, ℕ, ◌+◌, ◌<◌, ◌≤◌, ◌==◌, Bool, true, cond, List, [], ◌∷◌, ◌++◌, map, Some}
use Rattle.std.specs.List.{list_any}
use Rattle.blif_flattening.specs.declared.model.Connection.{Connection}
use Rattle.blif_flattening.specs.declared.model.Placement.{Placement}
use Rattle.blif_flattening.specs.declared.model.Item.{Item}
use Rattle.blif_flattening.specs.declared.model.Item.TheVariants.{Own, Place}
use Rattle.blif_flattening.specs.declared.model.Model.{Model}
use Rattle.blif_flattening.specs.Hierarchy.{items_of, actual_in, owner, flat_lines, mentioned}
use Rattle.blif_flattening.specs.Instances.{names_of}
use Rattle.blif_flattening.specs.Members.{Among, Apart}
use Rattle.blif_flattening.specs.Numbers.{number}

-- how many things in a list pass a test, and how often a number stands there
abbrev pub count_where : {X : Type 0} → (X → Bool) → List X → ℕ
count_where test [] = 0
count_where test (x ∷ xs) = cond (test x) 1 0 + count_where test xs

abbrev pub times : ℕ → List ℕ → ℕ
times number numbers = count_where (λ other. other == number) numbers

-- the names that lines list as inputs
abbrev pub inputs_in : {Line : Type 0} → (Line → List ℕ) → List (Item Line) → List ℕ
inputs_in inputs [] = []
inputs_in inputs (Own line ∷ items) = inputs line ++ inputs_in inputs items
inputs_in inputs (Place placement ∷ items) = inputs_in inputs items

-- whether a name of a model is an input of it
abbrev pub is_input : {Line : Type 0} → (Line → List ℕ) → List (Model Line) → ℕ → ℕ → Bool
is_input inputs models model name = list_any (λ other. other == name) (inputs_in inputs (items_of models model))

-- what connections drive: the actuals of the formals that are no inputs
abbrev pub actuals_driven : (ℕ → Bool) → List Connection → List ℕ
actuals_driven is_in [] = []
actuals_driven is_in (connection ∷ connections) =
    cond (is_in connection.formal) (actuals_driven is_in connections) (connection.actual ∷ actuals_driven is_in connections)

-- the names that lines and placements drive
abbrev pub driven_in : {Line : Type 0} → (Line → List ℕ) → (Line → List ℕ) → List (Model Line) → List (Item Line) → List ℕ
driven_in inputs drives models [] = []
driven_in inputs drives models (Own line ∷ items) = drives line ++ driven_in inputs drives models items
driven_in inputs drives models (Place placement ∷ items) =
    actuals_driven (is_input inputs models placement.model) placement.connections ++ driven_in inputs drives models items

-- the inputs of a model, and the names that it drives
abbrev pub drivers_of : {Line : Type 0} → (Line → List ℕ) → (Line → List ℕ) → List (Model Line) → ℕ → List ℕ
drivers_of inputs drives models model =
    inputs_in inputs (items_of models model) ++ driven_in inputs drives models (items_of models model)

-- connections of a placement in form: of names of the model that is placed, none of them twice
pub record IsInForm {Line : Type 0} (models : List (Model Line)) (placement : Placement) : Type 0 where
  pub formals : (connection : Connection) → Among connection placement.connections
      → connection.formal < names_of models placement.model
  pub once : Apart (map (λ connection. connection.formal) placement.connections)

-- and of all of its inputs
pub record IsConnected {Line : Type 0} (inputs : Line → List ℕ) (models : List (Model Line)) (placement : Placement)
    : Type 0 where
  pub form : IsInForm models placement
  pub whole : (name : ℕ) → is_input inputs models placement.model name ≡ true
      → (actual : ℕ) × (actual_in placement.connections name ≡ Some actual)

-- in each model each name is an input, or a line or a placement drives it, and just one does; nothing else is driven; and
-- each placement is connected as it should be
pub record IsDriven {Line : Type 0} (inputs drives : Line → List ℕ) (models : List (Model Line)) : Type 0 where
  pub once : (model name : ℕ) → name < names_of models model → times name (drivers_of inputs drives models model) ≡ 1
  pub past : (model name : ℕ) → names_of models model ≤ name → times name (drivers_of inputs drives models model) ≡ 0
  pub connected : (model : ℕ) (placement : Placement) → Among (Place placement) (items_of models model)
      → IsConnected inputs models placement

-- the signals that are driven in a hierarchy by number: the inputs of the top, and what the flat lines drive
abbrev pub driven_numbers : {Line : Type 0} → (Line → List ℕ) → (Line → List ℕ) → (Line → List ℕ) → List (Model Line) → List ℕ
driven_numbers mentions inputs drives models =
    map (number mentions models)
    (map (owner models []) (inputs_in inputs (items_of models 0)) ++ mentioned drives models (flat_lines models))
