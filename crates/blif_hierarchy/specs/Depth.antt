-- How deep models are.
use Rattle.std.specs.Prelude.{◌≡◌, ℕ, zero, suc, ◌<◌, ◌≤◌, List, [], ◌∷◌, length, map, max, slice_index, Some}
use Rattle.blif_flattening.specs.declared.model.Placement.{Placement}
use Rattle.blif_flattening.specs.declared.model.Model.{Model}
use Rattle.blif_flattening.specs.declared.model.TheConstants.{DEEPEST}
use Rattle.blif_flattening.specs.Hierarchy.{Path, placements_in, placement_of, IsInstance}
use Rattle.blif_hierarchy.specs.Sums.{placements_of}

abbrev pub largest : List ℕ → ℕ
largest [] = 0
largest (number ∷ numbers) = max number (largest numbers)

-- a model without a placement has depth 1, and any other one more than the deepest that it places; counted up to so many
abbrev pub depth_of : {Line : Type 0} → List (Model Line) → ℕ → ℕ → ℕ
depth_of models zero model = 0
depth_of models (suc most) model =
    suc (largest (map (λ (placement : Placement). depth_of models most placement.model) (placements_of models model)))

-- a placement is of a model that is as deep as a path may lead
pub record IsTooDeep {Line : Type 0} (models : List (Model Line)) (model k : ℕ) : Type 0 where
  pub placement : Placement
  pub there : placement_of models model k ≡ Some placement
  pub deep : DEEPEST ≤ depth_of models DEEPEST placement.model

-- the depth of a model, by those of the models that it places
abbrev pub depths_after : {Line : Type 0} → List ℕ → Model Line → ℕ
depths_after depths model =
    suc (largest (map (λ (placement : Placement). slice_index depths placement.model) (placements_in model.items)))

-- a list has the depth of each model, counted up to so many
pub record HasDepths {Line : Type 0} (models : List (Model Line)) (most : ℕ) (depths : List ℕ) : Type 0 where
  pub size : length depths ≡ length models
  pub each : (model : ℕ) → model < length models → slice_index depths model ≡ depth_of models most model

-- no path is as long as the deepest may be
abbrev pub IsShallow : {Line : Type 0} → List (Model Line) → Type 0
IsShallow models = (path : Path) → IsInstance models path → length path < DEEPEST
