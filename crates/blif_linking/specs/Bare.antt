-- Models with nothing but what they place: what is known of a hierarchy before its connections are looked at.
use Rattle.std.specs.Prelude.{ℕ, List, [], map, Option}
use Rattle.blif_flattening.specs.declared.model.Item.{Item}
use Rattle.blif_flattening.specs.declared.model.Item.TheVariants.{Place}
use Rattle.blif_flattening.specs.declared.model.Model.{Model as NumberedModel}
use Rattle.blif_flattening.specs.declared.model.Placement.{Placement}
use Rattle.blif_flattening.specs.Hierarchy.{placements_in}
use Rattle.blif_model.specs.declared.line.ModelLine.{ModelLine}
use Rattle.blif_model.specs.Files.{Part, Placing}
use Rattle.blif_linking.specs.Links.{title_in}
use Rattle.blif_linking.specs.Numbering.{model_number}

-- a placement without its connections
abbrev pub bare_placement : Placement → Placement
bare_placement placement = record { model = placement.model; connections = [] }

-- a model without names and lines
abbrev pub bare_item : {Line : Type 0} → Placement → Item Line
bare_item placement = Place (bare_placement placement)

abbrev pub bare_model : {Line : Type 0} → NumberedModel Line → NumberedModel Line
bare_model model = record { names = 0; items = map bare_item (placements_in model.items) }

abbrev pub bare : {Line : Type 0} → List (NumberedModel Line) → List (NumberedModel Line)
bare models = map bare_model models

-- those of a text, by the number of each model's name
abbrev pub outlined_placing : (List ℕ → Option ℕ) → Placing → Item ModelLine
outlined_placing number placing = Place (record { model = model_number number (title_in placing.words); connections = [] })

abbrev pub outlined_part : {Own : Type 0} → (List ℕ → Option ℕ) → Part Own → NumberedModel ModelLine
outlined_part number part = record { names = 0; items = map (outlined_placing number) part.placings }
