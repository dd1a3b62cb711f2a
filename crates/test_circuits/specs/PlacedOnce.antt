-- A worked example: the top has two names and places a model, with nothing connected; and a model with names alone.
use Rattle.std.specs.Prelude.{ℕ, List, [], ◌∷◌}
use Rattle.blif_flattening.specs.declared.model.Item.TheVariants.{Place}
use Rattle.blif_flattening.specs.declared.model.Model.{Model}

abbrev pub worked : ℕ → ℕ → List (Model ℕ)
worked names placed =
    record { names = 2; items = Place (record { model = placed; connections = [] }) ∷ [] }
    ∷ record { names = names; items = [] } ∷ []
