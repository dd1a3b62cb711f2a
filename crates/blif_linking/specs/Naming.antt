-- The names of a model in the order of their first mention, by what the models offer.
use Rattle.std.specs.Prelude.{ℕ, ◌-◌, List, [], ◌∷◌, map, take, drop, Option}
use Rattle.blif_flattening.specs.declared.model.Item.{Item}
use Rattle.blif_model.specs.declared.line.ModelLine.{ModelLine}
use Rattle.blif_model.specs.FileKnown.{OwnLines}
use Rattle.blif_model.specs.Files.{Part, Placing}
use Rattle.blif_model.specs.Models.{Mention, with_name}
use Rattle.blif_linking.specs.declared.interface.Interface.{Interface}
use Rattle.blif_linking.specs.Actuals.{mentions_at}
use Rattle.blif_linking.specs.Sets.{gathered, text_at}
use Rattle.blif_linking.specs.Undriven.{mentioned_at}

-- names with those of mentions
abbrev pub named_by : List (List ℕ) → List Mention → List (List ℕ)
named_by names [] = names
named_by names (mention ∷ mentions) = named_by (with_name names mention.word.text) mentions

-- and with those that lines mention
abbrev pub named_in : List (List ℕ) → List (List ℕ) → List (Item ModelLine) → List (List ℕ)
named_in own names [] = names
named_in own names (item ∷ items) = named_in own (gathered names (map (text_at own) (mentioned_at item))) items

-- those of lines and placements in their order
abbrev pub named_from : List (List ℕ) → (List ℕ → Option ℕ) → List Interface → List (List ℕ) → ℕ → List (Item ModelLine) → List Placing → List (List ℕ)
named_from own number interfaces names before items [] = named_in own names items
named_from own number interfaces names before items (placing ∷ placings) =
    named_from own number interfaces
    (named_by (named_in own names (take (placing.before - before) items)) (mentions_at number interfaces placing))
    placing.before (drop (placing.before - before) items) placings

abbrev pub named_within : (List ℕ → Option ℕ) → List Interface → Part OwnLines → List (List ℕ)
named_within number interfaces part =
    named_from part.own.text.names number interfaces [] 0 part.own.text.model.items part.placings
