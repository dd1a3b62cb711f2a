-- The models of a text by numbers: each name is its place among the names of its model in the order of their first mention,
-- and each model its place in the text.
use Rattle.std.specs.Prelude.{◌≡◌, ℕ, List, [], ◌∷◌, length, map, Option, None, Some, Ok}
use Rattle.std.specs.List.{flat_map}
use Rattle.psl_base.specs.Tokens.{PlacedToken}
use Rattle.blif_flattening.specs.declared.model.Connection.{Connection}
use Rattle.blif_flattening.specs.declared.model.Item.{Item}
use Rattle.blif_flattening.specs.declared.model.Item.TheVariants.{Own, Place}
use Rattle.blif_flattening.specs.declared.model.Model.{Model as NumberedModel}
use Rattle.blif_hierarchy.specs.Depth.{IsTooDeep}
use Rattle.blif_hierarchy.specs.First.{Finds}
use Rattle.blif_hierarchy.specs.Order.{IsRecursive}
use Rattle.blif_hierarchy.specs.Sums.{FindsPast}
use Rattle.blif_model.specs.declared.line.ModelLine.{ModelLine}
use Rattle.blif_model.specs.Files.{Part, models_of}
use Rattle.blif_model.specs.Models.{Model}
use Rattle.blif_model.specs.Names.{number_at, place_of}
use Rattle.blif_model.specs.Numbered.{line_of}
use Rattle.blif_linking.specs.Interfaces.{Role, Input, Output, Clock, role_of}
use Rattle.blif_linking.specs.Links.{Link, connections_in, link_of}
use Rattle.blif_linking.specs.Names.{Entry, Says, Places, Parts, entries_of, first_bad, first_driven, first_undriven, first_unknown, names_in, number_placed, placed}
use Rattle.blif_linking.specs.Sizes.{scale_of}

-- a formal and the name that it is connected with
abbrev pub joined : Parts → Part Model → Part Model → Link → Connection
joined parts part model link = record {
  formal = number_at (place_of (names_in parts model) link.formal);
  actual = number_at (place_of (names_in parts part) link.actual);
}

-- connections of inputs and outputs count
abbrev pub joined_by_role : Parts → Part Model → Part Model → Link → Option Role → List Connection
joined_by_role parts part model link (Some Input) = joined parts part model link ∷ []
joined_by_role parts part model link (Some Output) = joined parts part model link ∷ []
joined_by_role parts part model link (Some Clock) = []
joined_by_role parts part model link None = []

abbrev pub joined_link : Parts → Part Model → Part Model → Option Link → List Connection
joined_link parts part model None = []
joined_link parts part model (Some link) = joined_by_role parts part model link (role_of model link.formal)

abbrev pub joined_all : Parts → Part Model → Option (Part Model) → List PlacedToken → List Connection
joined_all parts part None words = []
joined_all parts part (Some model) words =
    flat_map (λ (word : PlacedToken). joined_link parts part model (link_of word.text)) words

abbrev pub item_of : Parts → Part Model → Entry → Item ModelLine
item_of parts part (Says statement) = Own (line_of (names_in parts part) statement)
item_of parts part (Places placing) = Place (record {
  model = number_at (number_placed parts placing);
  connections = joined_all parts part (placed parts placing) (connections_in placing.words);
})

abbrev pub linked_model : Parts → Part Model → NumberedModel ModelLine
linked_model parts part =
    record { names = length (names_in parts part); items = map (item_of parts part) (entries_of part) }

-- all models, and the names of each
abbrev pub linked : Parts → List (NumberedModel ModelLine)
linked parts = map (linked_model parts) parts

abbrev pub linked_texts : Parts → List (List (List ℕ))
linked_texts parts = map (names_in parts) parts

-- a text says models that fit together: each that is placed is there, and is connected as it offers; none contains itself,
-- at any depth, and none is too deep; each name has one driver; and the sums of signals, instances and sizes are in bounds
pub record IsHierarchy (text : List ℕ) (models : List (NumberedModel ModelLine)) (texts : List (List (List ℕ))) : Type 0 where
  pub parts : Parts
  pub said : models_of text ≡ Ok parts
  pub known : first_unknown parts ≡ None
  pub connected : first_bad parts ≡ None
  pub models_are : models ≡ linked parts
  pub texts_are : texts ≡ linked_texts parts
  pub finite : Finds (IsRecursive models) None
  pub shallow : Finds (IsTooDeep models) None
  pub apart : first_driven parts ≡ None
  pub driven : first_undriven parts ≡ None
  pub few : FindsPast models (scale_of text parts) None
