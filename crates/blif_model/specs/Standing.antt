-- What the lines before a line have said.
use Rattle.std.specs.Prelude.{Bool, true, false, cond, List, [], ◌∷◌, ◌++◌, map, length, Option, None, Some}
use Rattle.psl_base.specs.Tokens.{PlacedToken}
use Rattle.blif_model.specs.declared.command.Command.{Command}
use Rattle.blif_model.specs.declared.command.Command.TheVariants as commands
use Rattle.blif_model.specs.Commands.{is_table_row}
use Rattle.blif_model.specs.Models.{Gate, Mention, Model, Statement, IsInputs}
use Rattle.blif_model.specs.Models.{IsOutputs, IsLatch, IsTable, driven, used, nothing_said}
use Rattle.blif_model.specs.Shapes.{Clocking, Row, LatchParts, row_of, latch_of, is_one}

-- The model that is being read; the type and control of the first latch that has them; whether the last command was a
-- `.names`, so that its rows may follow; whether a command stood before, a `.model`, and an `.end`.
pub record Standing : Type 0 where
  pub model : Model
  pub clocking : Option Clocking
  pub in_table : Bool
  pub begun : Bool
  pub titled : Bool
  pub ended : Bool

abbrev pub at_first : Standing
at_first = record { model = nothing_said; clocking = None; in_table = false; begun = false; titled = false; ended = false }

-- all but the last of some words, and the last
abbrev pub all_but_last : List PlacedToken → List PlacedToken
all_but_last [] = []
all_but_last (word ∷ []) = []
all_but_last (word ∷ other ∷ words) = word ∷ all_but_last (other ∷ words)

abbrev pub last_of : List PlacedToken → Option PlacedToken
last_of [] = None
last_of (word ∷ []) = Some word
last_of (word ∷ other ∷ words) = last_of (other ∷ words)

-- the names that the words behind a `.names` mention
abbrev pub mentions_of_names : List PlacedToken → List Mention
mentions_of_names [] = []
mentions_of_names (word ∷ []) = driven word ∷ []
mentions_of_names (word ∷ other ∷ words) = used word ∷ mentions_of_names (other ∷ words)

abbrev pub mentions_of_latch : Option LatchParts → List Mention
mentions_of_latch None = []
mentions_of_latch (Some latch) = used latch.input ∷ driven latch.output ∷ []

-- the names that a command mentions, in order
abbrev pub mentions_of : Command → List PlacedToken → List Mention
mentions_of commands.Model words = []
mentions_of commands.Inputs words = map driven words
mentions_of commands.Outputs words = map used words
mentions_of commands.Names words = mentions_of_names words
mentions_of commands.Latch words = mentions_of_latch (latch_of words)
mentions_of commands.Clock words = []
mentions_of commands.End words = []
mentions_of commands.Unknown words = []
mentions_of commands.Row words = []

-- the table that was said last, where nothing else was said behind it
abbrev pub table_of : Statement → Option Gate
table_of (IsInputs words) = None
table_of (IsOutputs words) = None
table_of (IsLatch latch) = None
table_of (IsTable gate) = Some gate

abbrev pub last_table : List Statement → Option Gate
last_table [] = None
last_table (statement ∷ []) = table_of statement
last_table (statement ∷ other ∷ statements) = last_table (other ∷ statements)

-- a table with a row more
abbrev pub with_row : Gate → Option Row → Gate
with_row gate None = gate
with_row gate (Some row) = record gate { rows = gate.rows ++ row.marks ∷ []; value = is_one row.output.text }

abbrev pub with_row_in : Statement → List PlacedToken → Statement
with_row_in (IsInputs names) words = IsInputs names
with_row_in (IsOutputs names) words = IsOutputs names
with_row_in (IsLatch latch) words = IsLatch latch
with_row_in (IsTable gate) words = IsTable (with_row gate (row_of (length gate.inputs) words))

-- the table that was said last has a row more
abbrev pub with_last_row : List Statement → List PlacedToken → List Statement
with_last_row [] words = []
with_last_row (statement ∷ []) words = with_row_in statement words ∷ []
with_last_row (statement ∷ other ∷ statements) words = statement ∷ with_last_row (other ∷ statements) words

abbrev pub table_by : List PlacedToken → Option PlacedToken → List Statement
table_by words None = []
table_by words (Some output) =
    IsTable (record { inputs = all_but_last words; output = output; rows = []; value = true }) ∷ []

abbrev pub latch_by : Option LatchParts → List Statement
latch_by None = []
latch_by (Some latch) = IsLatch (record { input = latch.input; output = latch.output; init = latch.init }) ∷ []

-- what a command says that is no row
abbrev pub statements_of : Command → List PlacedToken → List Statement
statements_of commands.Model words = []
statements_of commands.Inputs words = IsInputs words ∷ []
statements_of commands.Outputs words = IsOutputs words ∷ []
statements_of commands.Names words = table_by words (last_of words)
statements_of commands.Latch words = latch_by (latch_of words)
statements_of commands.Clock words = []
statements_of commands.End words = []
statements_of commands.Unknown words = []
statements_of commands.Row words = []

-- what is said of the model with one command more
abbrev pub said_by : Model → Command → List PlacedToken → Model
said_by model command words =
    cond (is_table_row command) (record model { statements = with_last_row model.statements words })
    (record {
      mentions = model.mentions ++ mentions_of command words;
      statements = model.statements ++ statements_of command words;
    })

abbrev pub clocking_in : Option LatchParts → Option Clocking
clocking_in None = None
clocking_in (Some latch) = latch.clocking

-- the first type and control
abbrev pub first_clocking : Option Clocking → Option Clocking → Option Clocking
first_clocking None later = later
first_clocking (Some clocking) later = Some clocking

abbrev pub clocking_by : Option Clocking → Command → List PlacedToken → Option Clocking
clocking_by clocking commands.Model words = clocking
clocking_by clocking commands.Inputs words = clocking
clocking_by clocking commands.Outputs words = clocking
clocking_by clocking commands.Names words = clocking
clocking_by clocking commands.Latch words = first_clocking clocking (clocking_in (latch_of words))
clocking_by clocking commands.Clock words = clocking
clocking_by clocking commands.End words = clocking
clocking_by clocking commands.Unknown words = clocking
clocking_by clocking commands.Row words = clocking

abbrev pub is_in_table : Bool → Command → Bool
is_in_table before commands.Model = false
is_in_table before commands.Inputs = false
is_in_table before commands.Outputs = false
is_in_table before commands.Names = true
is_in_table before commands.Latch = false
is_in_table before commands.Clock = false
is_in_table before commands.End = false
is_in_table before commands.Unknown = false
is_in_table before commands.Row = before

abbrev pub is_titled : Bool → Command → Bool
is_titled before commands.Model = true
is_titled before commands.Inputs = before
is_titled before commands.Outputs = before
is_titled before commands.Names = before
is_titled before commands.Latch = before
is_titled before commands.Clock = before
is_titled before commands.End = before
is_titled before commands.Unknown = before
is_titled before commands.Row = before

abbrev pub is_ended : Bool → Command → Bool
is_ended before commands.Model = before
is_ended before commands.Inputs = before
is_ended before commands.Outputs = before
is_ended before commands.Names = before
is_ended before commands.Latch = before
is_ended before commands.Clock = before
is_ended before commands.End = true
is_ended before commands.Unknown = before
is_ended before commands.Row = before

-- what is said with one command more, and the words behind it; the words of a row are all of its line
abbrev pub standing_by_command : Standing → Command → List PlacedToken → Standing
standing_by_command standing command words = record {
  model = said_by standing.model command words;
  clocking = clocking_by standing.clocking command words;
  in_table = is_in_table standing.in_table command;
  begun = true;
  titled = is_titled standing.titled command;
  ended = is_ended standing.ended command;
}

-- the words that belong to a command: those behind it, or all of a row
abbrev pub words_of : Command → PlacedToken → List PlacedToken → List PlacedToken
words_of command head words = cond (is_table_row command) (head ∷ words) words
