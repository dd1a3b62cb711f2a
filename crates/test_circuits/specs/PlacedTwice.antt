-- A worked example: the top places model 1 as u1, with its name 0 on the top's name 0, and then as u2 with nothing
-- connected; model 1 has two names and two lines.
use Rattle.std.specs.Prelude.{List, [], ◌∷◌}
use Rattle.blif_flattening.specs.declared.model.Connection.{Connection}
use Rattle.blif_flattening.specs.declared.model.Item.{Item}
use Rattle.blif_flattening.specs.declared.model.Item.TheVariants.{Own, Place}
use Rattle.blif_flattening.specs.declared.model.Model.{Model}

abbrev pub placed_lower : {Line : Type 0} → List Connection → Item Line
placed_lower connections = Place (record { model = 1; connections = connections })

abbrev pub worked : {Line : Type 0} → Line → Line → List (Model Line)
worked first second =
    record { names = 1; items = placed_lower (record { formal = 0; actual = 0 } ∷ []) ∷ placed_lower [] ∷ [] }
    ∷ record { names = 2; items = Own first ∷ Own second ∷ [] } ∷ []
