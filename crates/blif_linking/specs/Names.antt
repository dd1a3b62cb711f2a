-- What each `.subckt` says in its model, and the words at which it is at fault. Each is the first in the order of the text.
use Rattle.std.specs.Prelude.{ℕ, ◌-◌, Bool, true, not, ◌&&◌, ◌||◌, cond, List, [], ◌∷◌, ◌++◌, map, take, drop, slice_get, option_and_then, is_none, Option, None, Some}
use Rattle.std.specs.List.{find, flat_map, list_any}
use Rattle.std.specs.Option.{option_map, option_or}
use Rattle.psl_base.specs.Tokens.{PlacedToken}
use Rattle.blif_model.specs.Files.{Part, Placing, model_named}
use Rattle.blif_model.specs.Models.{Mention, Model, Statement, IsInputs, IsOutputs, IsLatch, IsTable, driven, is_driven, is_undriven, names_of, used}
use Rattle.blif_linking.specs.Interfaces.{Role, Input, Output, Clock, inputs_in, is_one_of, role_of}
use Rattle.blif_linking.specs.Links.{Link, connections_in, formal_of, link_of, title_in}

-- the models of a text
abbrev pub Parts : Type 0
Parts = List (Part Model)

-- the first thing of a list of which something is told
abbrev pub first_some : {A B : Type 0} → (A → Option B) → List A → Option B
first_some tell [] = None
first_some tell (x ∷ xs) = option_or (tell x) (first_some tell xs)

-- there is no model of that name: at the name, or at the `.subckt` where it has none. Which number the model of a name has
-- is given
abbrev pub unknown_by : (List ℕ → Option ℕ) → PlacedToken → Option PlacedToken → Option PlacedToken
unknown_by number head None = Some head
unknown_by number head (Some title) = cond (is_none (number title.text)) (Some title) None

abbrev pub unknown_word : (List ℕ → Option ℕ) → Placing → Option PlacedToken
unknown_word number placing = unknown_by number placing.head (title_in placing.words)

abbrev pub unknown_from : {Own : Type 0} → (List ℕ → Option ℕ) → List (Part Own) → Option PlacedToken
unknown_from number parts = first_some (λ part. first_some (unknown_word number) part.placings) parts

abbrev pub first_unknown : Parts → Option PlacedToken
first_unknown parts = unknown_from (model_named parts) parts

-- the number of the model that is placed, and that model
abbrev pub number_placed : Parts → Placing → Option ℕ
number_placed parts placing = option_and_then (λ (title : PlacedToken). model_named parts title.text) (title_in placing.words)

abbrev pub placed : Parts → Placing → Option (Part Model)
placed parts placing = option_and_then (slice_get parts) (number_placed parts placing)

-- a word that is no connection, or connects a name that the model does not offer, or one that is connected before
abbrev pub formals_of : List PlacedToken → List (List ℕ)
formals_of words = flat_map (λ (word : PlacedToken). formal_of (link_of word.text)) words

abbrev pub is_bad : Part Model → List (List ℕ) → Option Link → Bool
is_bad model given None = true
is_bad model given (Some link) = is_none (role_of model link.formal) || is_one_of given link.formal

abbrev pub bad_from : Part Model → List PlacedToken → List PlacedToken → Option PlacedToken
bad_from model before [] = None
bad_from model before (word ∷ words) =
    cond (is_bad model (formals_of before) (link_of word.text)) (Some word) (bad_from model (before ++ word ∷ []) words)

-- an input that no word connects is missing: at the name of the model
abbrev pub is_missing : Part Model → List PlacedToken → Bool
is_missing model words = list_any (λ input. not (is_one_of (formals_of words) input)) (inputs_in model.own.statements)

abbrev pub bad_in : Option (Part Model) → Option PlacedToken → List PlacedToken → Option PlacedToken
bad_in None title words = None
bad_in (Some model) title words = cond (is_missing model words) title (bad_from model [] words)

abbrev pub bad_word : Parts → Placing → Option PlacedToken
bad_word parts placing = bad_in (placed parts placing) (title_in placing.words) (connections_in placing.words)

abbrev pub first_bad : Parts → Option PlacedToken
first_bad parts = first_some (λ (part : Part Model). first_some (bad_word parts) part.placings) parts

-- what stands in a model, in its order: its own lines, and what is placed in it
pub data Entry : Type 0 where
  Says : Statement → Entry
  Places : Placing → Entry

abbrev pub entries_from : ℕ → List Statement → List Placing → List Entry
entries_from before statements [] = map Says statements
entries_from before statements (placing ∷ placings) =
    map Says (take (placing.before - before) statements)
    ++ Places placing ∷ entries_from placing.before (drop (placing.before - before) statements) placings

abbrev pub entries_of : Part Model → List Entry
entries_of part = entries_from 0 part.own.statements part.placings

-- the names that a line mentions
abbrev pub mentions_said : Statement → List Mention
mentions_said (IsInputs words) = map driven words
mentions_said (IsOutputs words) = map used words
mentions_said (IsLatch latch) = used latch.input ∷ driven latch.output ∷ []
mentions_said (IsTable gate) = map used gate.inputs ++ driven gate.output ∷ []

-- and those that connections mention, each at its connection: an input is used by the model that is placed, and an output
-- is driven by it
abbrev pub actual_at : PlacedToken → Link → PlacedToken
actual_at word link = record { at = word.at; place = word.place; text = link.actual }

abbrev pub mention_by_role : PlacedToken → Option Role → List Mention
mention_by_role word (Some Input) = used word ∷ []
mention_by_role word (Some Output) = driven word ∷ []
mention_by_role word (Some Clock) = []
mention_by_role word None = []

abbrev pub mention_linked : Part Model → PlacedToken → Option Link → List Mention
mention_linked model word None = []
mention_linked model word (Some link) = mention_by_role (actual_at word link) (role_of model link.formal)

abbrev pub mentions_by : Option (Part Model) → List PlacedToken → List Mention
mentions_by None words = []
mentions_by (Some model) words = flat_map (λ (word : PlacedToken). mention_linked model word (link_of word.text)) words

abbrev pub mentions_placed : Parts → Placing → List Mention
mentions_placed parts placing = mentions_by (placed parts placing) (connections_in placing.words)

abbrev pub mentions_entered : Parts → Entry → List Mention
mentions_entered parts (Says statement) = mentions_said statement
mentions_entered parts (Places placing) = mentions_placed parts placing

abbrev pub mentions_in : Parts → Part Model → List Mention
mentions_in parts part = flat_map (mentions_entered parts) (entries_of part)

-- the names of a model, in the order of their first mention
abbrev pub names_in : Parts → Part Model → List (List ℕ)
names_in parts part = names_of (mentions_in parts part)

-- a connection of an output drives a name that a line drives, or a connection before it
abbrev pub driven_from : List Mention → List Mention → List Mention → Option PlacedToken
driven_from own before [] = None
driven_from own before (mention ∷ mentions) =
    cond (mention.drives && (is_driven own mention.word || is_driven before mention.word)) (Some mention.word)
    (driven_from own (before ++ mention ∷ []) mentions)

abbrev pub driven_word : Parts → Part Model → Option PlacedToken
driven_word parts part = driven_from part.own.mentions [] (flat_map (mentions_placed parts) part.placings)

abbrev pub first_driven : Parts → Option PlacedToken
first_driven parts = first_some (driven_word parts) parts

-- a name that is used, and that neither a line drives nor a connection
abbrev pub undriven_word : Parts → Part Model → Option PlacedToken
undriven_word parts part =
    let mentions = mentions_in parts part in
    option_map (λ (mention : Mention). mention.word) (find (is_undriven mentions) mentions)

abbrev pub first_undriven : Parts → Option PlacedToken
first_undriven parts = first_some (undriven_word parts) parts
