-- The models of a text by numbers, by what they offer and by their names.
use Rattle.std.specs.Prelude.{ℕ, ◌-◌, ◌<◌, ◌^◌, List, [], ◌∷◌, ◌++◌, length, map, take, drop, slice_index, slice_index_or, option_and_then, Option, None, Some, IfSome}
use Rattle.psl_base.specs.Tokens.{PlacedToken}
use Rattle.blif_flattening.specs.declared.model.Connection.{Connection}
use Rattle.blif_flattening.specs.declared.model.Item.{Item}
use Rattle.blif_flattening.specs.declared.model.Item.TheVariants.{Own, Place}
use Rattle.blif_flattening.specs.declared.model.Model.{Model as NumberedModel}
use Rattle.blif_model.specs.declared.line.ModelLine.{ModelLine}
use Rattle.blif_model.specs.FileKnown.{OwnLines}
use Rattle.blif_model.specs.Files.{Part, Placing}
use Rattle.blif_model.specs.Names.{number_at, place_of}
use Rattle.blif_linking.specs.declared.interface.Interface.{Interface}
use Rattle.blif_linking.specs.Bad.{offered}
use Rattle.blif_linking.specs.Interfaces.{Role, Input, Output, Clock}
use Rattle.blif_linking.specs.Links.{Link, connections_in, link_of, title_in}
use Rattle.blif_linking.specs.Offers.{role_in}

-- the number of a name, 0 where it is none of the names
abbrev pub number_in : List (List ℕ) → List ℕ → ℕ
number_in names name = number_at (place_of names name)

-- the numbers of names fit 32 bits
abbrev pub AreSmall : List (List ℕ) → Type 0
AreSmall names = (name : List ℕ) → IfSome (place_of names name) (λ number. number < 2 ^ 32)

-- a line with other numbers
abbrev pub renumbered : List ℕ → Item ModelLine → Item ModelLine
renumbered numbers (Own line) = Own (record { mentions = map (slice_index numbers) line.mentions; kind = line.kind })
renumbered numbers (Place placement) = Place placement

-- a connection by the names of both models
abbrev pub joined_as : List (List ℕ) → List (List ℕ) → Link → Option Role → List Connection
joined_as formals actuals link (Some Input) =
    record { formal = number_in formals link.formal; actual = number_in actuals link.actual } ∷ []
joined_as formals actuals link (Some Output) =
    record { formal = number_in formals link.formal; actual = number_in actuals link.actual } ∷ []
joined_as formals actuals link (Some Clock) = []
joined_as formals actuals link None = []

abbrev pub joined_one : Interface → List (List ℕ) → List (List ℕ) → Option Link → List Connection
joined_one interface formals actuals None = []
joined_one interface formals actuals (Some link) = joined_as formals actuals link (role_in interface link.formal)

abbrev pub joined_by : Interface → List (List ℕ) → List (List ℕ) → List PlacedToken → List Connection
joined_by interface formals actuals [] = []
joined_by interface formals actuals (word ∷ words) =
    joined_one interface formals actuals (link_of word.text) ++ joined_by interface formals actuals words

abbrev pub joined_for : Option Interface → List (List ℕ) → List (List ℕ) → List PlacedToken → List Connection
joined_for None formals actuals words = []
joined_for (Some interface) formals actuals words = joined_by interface formals actuals words

-- a placement, where the models have these names
abbrev pub model_number : (List ℕ → Option ℕ) → Option PlacedToken → ℕ
model_number number title = number_at (option_and_then (λ (word : PlacedToken). number word.text) title)

abbrev pub placement_in : (List ℕ → Option ℕ) → List Interface → List (List (List ℕ)) → List (List ℕ) → Placing → Item ModelLine
placement_in number interfaces texts names placing =
    let title = title_in placing.words in
    Place (record {
      model = model_number number title;
      connections =
          joined_for (offered number interfaces title) (slice_index_or texts (model_number number title) []) names (connections_in placing.words);
    })

-- lines with other numbers, and what is placed between them
abbrev pub woven : List ℕ → ℕ → List (Item ModelLine) → List Placing → List (Item ModelLine) → List (Item ModelLine)
woven numbers before items [] placed = map (renumbered numbers) items
woven numbers before items (placing ∷ placings) [] = []
woven numbers before items (placing ∷ placings) (place ∷ placed) =
    map (renumbered numbers) (take (placing.before - before) items)
    ++ place ∷ woven numbers placing.before (drop (placing.before - before) items) placings placed

-- a model whose names these are
abbrev pub numbered_within : (List ℕ → Option ℕ) → List Interface → List (List (List ℕ)) → List (List ℕ) → Part OwnLines → NumberedModel ModelLine
numbered_within number interfaces texts names part = record {
  names = length names;
  items =
      woven (map (number_in names) part.own.text.names) 0 part.own.text.model.items part.placings
      (map (placement_in number interfaces texts names) part.placings);
}

-- models whose names these are
abbrev pub numbered_among : (List ℕ → Option ℕ) → List Interface → List (List (List ℕ)) → List (List (List ℕ)) → List (Part OwnLines) → List (NumberedModel ModelLine)
numbered_among number interfaces texts some [] = []
numbered_among number interfaces texts [] (part ∷ parts) = []
numbered_among number interfaces texts (names ∷ some) (part ∷ parts) =
    numbered_within number interfaces texts names part ∷ numbered_among number interfaces texts some parts
