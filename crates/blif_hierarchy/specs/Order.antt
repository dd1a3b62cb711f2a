-- Which models place which.
use Rattle.std.specs.Prelude.{◌≡◌, ℕ, ◌⊎◌, List, map, Some}
use Rattle.blif_flattening.specs.declared.model.Placement.{Placement}
use Rattle.blif_flattening.specs.declared.model.Model.{Model}
use Rattle.blif_flattening.specs.Hierarchy.{placements_in, placement_of}
use Rattle.netlist_order.specs.Graph.{Graph, Depends}

-- the models that a model places, in order
abbrev pub placed_by : {Line : Type 0} → Model Line → List ℕ
placed_by model = map (λ placement. placement.model) (placements_in model.items)

-- and those of each model, as a dependency graph
abbrev pub model_graph : {Line : Type 0} → List (Model Line) → Graph
model_graph models = map (λ model. map (λ placed. Some placed) (placed_by model)) models

-- a placement is of the model in which it stands, or of one that contains that one at any depth
pub record IsRecursive {Line : Type 0} (models : List (Model Line)) (model k : ℕ) : Type 0 where
  pub placement : Placement
  pub there : placement_of models model k ≡ Some placement
  pub back : (placement.model ≡ model) ⊎ Depends (model_graph models) placement.model model
