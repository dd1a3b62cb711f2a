-- What the lines of a model say: the names that they mention, and its inputs, outputs, latches and tables in order.
use Rattle.std.specs.Prelude.{ℕ, Bool, true, false, not, ◌&&◌, cond, List, [], ◌∷◌, ◌++◌}
use Rattle.std.specs.List.{list_any, fold}
use Rattle.std.specs.Str.{bytes_eq}
use Rattle.psl_base.specs.Tokens.{PlacedToken}
use Rattle.netlist.specs.declared.latch.Init.{Init}
use Rattle.netlist.specs.declared.rows.Mark.{Mark}

-- a word that names a signal, which its line drives or uses
pub record Mention : Type 0 where
  pub word : PlacedToken
  pub drives : Bool

abbrev pub mention_as : Bool → PlacedToken → Mention
mention_as drives word = record { word = word; drives = drives }

abbrev pub driven : PlacedToken → Mention
driven word = mention_as true word

abbrev pub used : PlacedToken → Mention
used word = mention_as false word

-- whether a word is that of a mention
abbrev pub is_of : PlacedToken → Mention → Bool
is_of word mention = bytes_eq word.text mention.word.text

-- whether some of the mentions are of a word
abbrev pub is_mentioned : List Mention → PlacedToken → Bool
is_mentioned mentions word = list_any (is_of word) mentions

-- whether some of the mentions drive a word
abbrev pub is_driven : List Mention → PlacedToken → Bool
is_driven mentions word = list_any (λ mention. mention.drives && is_of word mention) mentions

-- whether a mention is a use of a name that none of the mentions drives
abbrev pub is_undriven : List Mention → Mention → Bool
is_undriven mentions mention = not mention.drives && not (is_driven mentions mention.word)

-- the names that are mentioned, in the order of their first mention
abbrev pub with_name : List (List ℕ) → List ℕ → List (List ℕ)
with_name names name = cond (list_any (bytes_eq name) names) names (names ++ name ∷ [])

abbrev pub names_of : List Mention → List (List ℕ)
names_of mentions = fold (λ names mention. with_name names mention.word.text) [] mentions

-- a latch: what it reads and drives, and its first value
pub record Register : Type 0 where
  pub input : PlacedToken
  pub output : PlacedToken
  pub init : Init

-- a table: what it reads and drives, its rows, and the output of these, true where there is none
pub record Gate : Type 0 where
  pub inputs : List PlacedToken
  pub output : PlacedToken
  pub rows : List (List Mark)
  pub value : Bool

-- a line that says something of a model; rows are part of their table's line
pub data Statement : Type 0 where
  IsInputs : List PlacedToken → Statement
  IsOutputs : List PlacedToken → Statement
  IsLatch : Register → Statement
  IsTable : Gate → Statement

-- what was said of a model, in the order in which it was said
pub record Model : Type 0 where
  pub mentions : List Mention
  pub statements : List Statement

abbrev pub nothing_said : Model
nothing_said = record { mentions = []; statements = [] }
