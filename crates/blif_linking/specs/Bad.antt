-- The first `.subckt` whose connections are at fault, by what the models offer.
use Rattle.std.specs.Prelude.{ℕ, Bool, true, not, ◌||◌, cond, List, [], ◌∷◌, option_and_then, slice_get, is_none, Option, None, Some}
use Rattle.std.specs.List.{list_any}
use Rattle.psl_base.specs.Tokens.{PlacedToken}
use Rattle.blif_model.specs.declared.file.FileText.{FileText}
use Rattle.blif_model.specs.FileKnown.{IsNumbered}
use Rattle.blif_model.specs.Files.{Part, Placing, models_of}
use Rattle.blif_model.specs.Models.{Model, with_name}
use Rattle.std.specs.Prelude.{◌≡◌, Ok}
use Rattle.blif_linking.specs.declared.interface.Interface.{Interface}
use Rattle.blif_linking.specs.Interfaces.{is_one_of}
use Rattle.blif_linking.specs.Links.{Link, connections_in, link_of, title_in}
use Rattle.blif_linking.specs.Names.{first_some}
use Rattle.blif_linking.specs.Offers.{role_in}

-- a text says models, which these are by numbers
abbrev pub IsReadAs : List ℕ → FileText → List (Part Model) → Type 0
IsReadAs whole text parts = (models_of whole ≡ Ok parts) × IsNumbered whole text parts

-- the formals that are connected, with one word more
abbrev pub given_with : List (List ℕ) → Option Link → List (List ℕ)
given_with given None = given
given_with given (Some link) = with_name given link.formal

abbrev pub given_by : List (List ℕ) → List PlacedToken → List (List ℕ)
given_by given [] = given
given_by given (word ∷ words) = given_by (given_with given (link_of word.text)) words

-- some input is not among them
abbrev pub lacks_one : List (List ℕ) → List (List ℕ) → Bool
lacks_one given inputs = list_any (λ input. not (is_one_of given input)) inputs

-- the first word that is no connection, or connects what is not offered, or is connected already
abbrev pub is_bad_in : Interface → List (List ℕ) → Option Link → Bool
is_bad_in interface given None = true
is_bad_in interface given (Some link) = is_none (role_in interface link.formal) || is_one_of given link.formal

abbrev pub bad_after : Interface → List (List ℕ) → List PlacedToken → Option PlacedToken
bad_after interface given [] = None
bad_after interface given (word ∷ words) =
    cond (is_bad_in interface given (link_of word.text)) (Some word)
    (bad_after interface (given_with given (link_of word.text)) words)

-- the word at which a `.subckt` is at fault, by what the model offers that it places
abbrev pub bad_for : Interface → Option PlacedToken → List PlacedToken → Option PlacedToken
bad_for interface title words =
    cond (lacks_one (given_by [] words) interface.inputs) title (bad_after interface [] words)

abbrev pub bad_by : Option Interface → Option PlacedToken → List PlacedToken → Option PlacedToken
bad_by None title words = None
bad_by (Some interface) title words = bad_for interface title words

-- the model that is placed, by the number of its name
abbrev pub offered : (List ℕ → Option ℕ) → List Interface → Option PlacedToken → Option Interface
offered number interfaces title =
    option_and_then (slice_get interfaces) (option_and_then (λ (word : PlacedToken). number word.text) title)

abbrev pub bad_placing : (List ℕ → Option ℕ) → List Interface → Placing → Option PlacedToken
bad_placing number interfaces placing =
    bad_by (offered number interfaces (title_in placing.words)) (title_in placing.words) (connections_in placing.words)

abbrev pub bad_among : {Own : Type 0} → (List ℕ → Option ℕ) → List Interface → List (Part Own) → Option PlacedToken
bad_among number interfaces parts = first_some (λ part. first_some (bad_placing number interfaces) part.placings) parts
