-- The first use of a name that nothing drives, by what the models offer.
use Rattle.std.specs.Prelude.{ℕ, ◌-◌, Bool, false, not, ◌&&◌, ◌||◌, cond, List, [], ◌∷◌, map, take, drop, slice_index_or, Option, None, Some}
use Rattle.std.specs.List.{list_any}
use Rattle.std.specs.Option.{option_or}
use Rattle.psl_base.specs.Tokens.{PlacedToken}
use Rattle.psl_base.specs.declared.place.Place.{Place}
use Rattle.blif_flattening.specs.declared.model.Item.{Item}
use Rattle.blif_flattening.specs.declared.model.Item.TheVariants.{Own, Place as Placed}
use Rattle.blif_model.specs.declared.line.ModelLine.{ModelLine}
use Rattle.blif_model.specs.FileKnown.{OwnLines}
use Rattle.blif_model.specs.Files.{Part, Placing}
use Rattle.blif_model.specs.Models.{Mention}
use Rattle.blif_linking.specs.declared.interface.Interface.{Interface}
use Rattle.blif_linking.specs.Actuals.{at_place, mentions_at}
use Rattle.blif_linking.specs.Driving.{found_in, lines_drive}
use Rattle.blif_linking.specs.Interfaces.{is_one_of}
use Rattle.blif_linking.specs.Names.{first_some}

-- neither a line nor a connection drives a name, by the names that connections drive
abbrev pub is_free : List (List ℕ) → List Bool → List (List ℕ) → List ℕ → Bool
is_free names driven found name = not (lines_drive names driven name || is_one_of found name)

-- of each name of a model, whether it is driven by none
abbrev pub free_names : List (List ℕ) → List Bool → List (List ℕ) → List Bool
free_names names driven found = map (is_free names driven found) names

-- the word that mentions the first such name
abbrev pub first_free : List Bool → List PlacedToken → Option PlacedToken
first_free [] words = None
first_free (free ∷ others) [] = None
first_free (free ∷ others) (word ∷ words) = cond free (Some word) (first_free others words)

-- whether items mention such a name
abbrev pub mentioned_at : Item ModelLine → List ℕ
mentioned_at (Own line) = line.mentions
mentioned_at (Placed placement) = []

abbrev pub some_free : List Bool → List ℕ → Bool
some_free free numbers = list_any (λ number. slice_index_or free number false) numbers

abbrev pub items_free : List Bool → List (Item ModelLine) → Bool
items_free free items = list_any (λ item. some_free free (mentioned_at item)) items

-- where connections first use such a name
abbrev pub is_free_use : List (List ℕ) → List Bool → List (List ℕ) → Mention → Bool
is_free_use names driven found mention = not mention.drives && is_free names driven found mention.word.text

abbrev pub free_by : List (List ℕ) → List Bool → List (List ℕ) → List Mention → Option Place
free_by names driven found [] = None
free_by names driven found (mention ∷ mentions) =
    cond (is_free_use names driven found mention) (Some mention.word.place) (free_by names driven found mentions)

-- where the first such use is in the order of a model's lines and placements: where a line has it, it is the place that is
-- given
abbrev pub free_from : List (List ℕ) → List Bool → List (List ℕ) → List Bool → Option Place → (List ℕ → Option ℕ) → List Interface → ℕ → List (Item ModelLine) → List Placing → Option Place
free_from names driven found free place number interfaces before items [] = cond (items_free free items) place None
free_from names driven found free place number interfaces before items (placing ∷ placings) =
    cond (items_free free (take (placing.before - before) items)) place
    (option_or (free_by names driven found (mentions_at number interfaces placing))
    (free_from names driven found free place number interfaces placing.before (drop (placing.before - before) items) placings))

abbrev pub undriven_within : (List ℕ → Option ℕ) → List Interface → Part OwnLines → Option Place
undriven_within number interfaces part =
    let names = part.own.text.names in
    let driven = part.own.driven in
    let found = found_in number interfaces [] part.placings in
    let free = free_names names driven found in
    let place = at_place (first_free free part.own.firsts) in
    free_from names driven found free place number interfaces 0 part.own.text.model.items part.placings

abbrev pub undriven_among : (List ℕ → Option ℕ) → List Interface → List (Part OwnLines) → Option Place
undriven_among number interfaces parts = first_some (undriven_within number interfaces) parts
