-- What connections drive, by what the models offer.
use Rattle.std.specs.Prelude.{ℕ, Bool, false, ◌&&◌, ◌||◌, cond, List, [], ◌∷◌, slice_index_or, Option, None, Some}
use Rattle.std.specs.Option.{option_or}
use Rattle.psl_base.specs.declared.place.Place.{Place}
use Rattle.blif_model.specs.FileKnown.{OwnLines}
use Rattle.blif_model.specs.Files.{Part, Placing}
use Rattle.blif_model.specs.Models.{Mention, with_name}
use Rattle.blif_model.specs.Names.{place_of}
use Rattle.blif_linking.specs.declared.interface.Interface.{Interface}
use Rattle.blif_linking.specs.Actuals.{mentions_at}
use Rattle.blif_linking.specs.Interfaces.{is_one_of}
use Rattle.blif_linking.specs.Names.{first_some}

-- whether a line drives a name, by the names of a model and what lines drive
abbrev pub flag_at : List Bool → Option ℕ → Bool
flag_at flags None = false
flag_at flags (Some number) = slice_index_or flags number false

abbrev pub lines_drive : List (List ℕ) → List Bool → List ℕ → Bool
lines_drive names driven name = flag_at driven (place_of names name)

-- the names that connections drive, with those of more
abbrev pub found_with : List (List ℕ) → Mention → List (List ℕ)
found_with found mention = cond mention.drives (with_name found mention.word.text) found

abbrev pub found_by : List (List ℕ) → List Mention → List (List ℕ)
found_by found [] = found
found_by found (mention ∷ mentions) = found_by (found_with found mention) mentions

abbrev pub found_in : (List ℕ → Option ℕ) → List Interface → List (List ℕ) → List Placing → List (List ℕ)
found_in number interfaces found [] = found
found_in number interfaces found (placing ∷ placings) =
    found_in number interfaces (found_by found (mentions_at number interfaces placing)) placings

-- where first a connection drives a name that a line drives, or a connection before it
abbrev pub is_twice : List (List ℕ) → List Bool → List (List ℕ) → Mention → Bool
is_twice names driven found mention =
    mention.drives && (lines_drive names driven mention.word.text || is_one_of found mention.word.text)

abbrev pub twice_by : List (List ℕ) → List Bool → List (List ℕ) → List Mention → Option Place
twice_by names driven found [] = None
twice_by names driven found (mention ∷ mentions) =
    cond (is_twice names driven found mention) (Some mention.word.place) (twice_by names driven (found_with found mention) mentions)

abbrev pub twice_in : List (List ℕ) → List Bool → (List ℕ → Option ℕ) → List Interface → List (List ℕ) → List Placing → Option Place
twice_in names driven number interfaces found [] = None
twice_in names driven number interfaces found (placing ∷ placings) =
    let mentions = mentions_at number interfaces placing in
    option_or (twice_by names driven found mentions) (twice_in names driven number interfaces (found_by found mentions) placings)

abbrev pub twice_within : (List ℕ → Option ℕ) → List Interface → Part OwnLines → Option Place
twice_within number interfaces part = twice_in part.own.text.names part.own.driven number interfaces [] part.placings

abbrev pub twice_among : (List ℕ → Option ℕ) → List Interface → List (Part OwnLines) → Option Place
twice_among number interfaces parts = first_some (twice_within number interfaces) parts
