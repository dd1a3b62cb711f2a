-- What is known of a model after some of its own lines, and how each line adds to it: what the code is proved against.
-- That this is what the definitions say is a law on files of models (`file_law`).
use Rattle.std.specs.Prelude.{ℕ, nat_le, Bool, true, false, cond, List, []}
use Rattle.std.specs.Prelude.{◌∷◌, ◌++◌, map, length, Option, None, Some, Result, Err}
use Rattle.std.specs.Option.{option_map, option_or}
use Rattle.netlist.specs.declared.rows.Mark.{Mark}
use Rattle.blif_flattening.specs.declared.model.Item.{Item}
use Rattle.blif_flattening.specs.declared.model.Item.TheVariants.{Own}
use Rattle.psl_base.specs.Tokens.{PlacedToken}
use Rattle.blif_model.specs.declared.command.Command.{Command}
use Rattle.blif_model.specs.declared.command.Command.TheVariants as commands
use Rattle.blif_model.specs.declared.fault.BlifFault.{BlifFault}
use Rattle.blif_model.specs.declared.flags.Flags.{Flags}
use Rattle.blif_model.specs.declared.line.LineKind.{LineKind}
use Rattle.blif_model.specs.declared.line.LineKind.TheVariants as kinds
use Rattle.blif_model.specs.declared.line.ModelLine.{ModelLine}
use Rattle.blif_model.specs.declared.text.ModelText.{ModelText}
use Rattle.blif_model.specs.Models.{Mention, driven, used}
use Rattle.blif_model.specs.Names.{Named, names_fault_in, nothing_named, numbers_in, with_mentions}
use Rattle.blif_model.specs.Rules.{clocking_fault, head_rule_by, latch_fault, output_fault}
use Rattle.blif_model.specs.Shapes.{Clocking, LatchParts, Row, is_one, latch_of, row_of}
use Rattle.blif_model.specs.Standing.{first_clocking, is_ended, is_titled}
use Rattle.blif_model.specs.Standing.{last_of, mentions_of, mentions_of_names}

-- the table whose rows may follow: the numbers of its names, how many inputs it has, its rows, their output, and where
-- the name of its output stands
pub record Opened : Type 0 where
  pub mentions : List ℕ
  pub width : ℕ
  pub rows : List (List Mark)
  pub value : Bool
  pub output_at : ℕ

-- what is known: the names, the lines that are read, the table whose rows may follow, the type and control of the first
-- latch that has them, and whether a command stood before, a `.model`, and an `.end`
pub record Known : Type 0 where
  pub named : Named
  pub lines : List (Item ModelLine)
  pub table : Option Opened
  pub clocking : Option Clocking
  pub begun : Bool
  pub titled : Bool
  pub ended : Bool

abbrev pub nothing_known : List ℕ → Known
nothing_known whole = record {
  named = nothing_named whole;
  lines = [];
  table = None;
  clocking = None;
  begun = false;
  titled = false;
  ended = false;
}

-- a line of a model
abbrev pub own : List ℕ → LineKind → Item ModelLine
own mentions kind = Own (record { mentions = mentions; kind = kind })

abbrev pub line_of_table : Opened → Item ModelLine
line_of_table table =
    own table.mentions (kinds.Table (record { rows = table.rows; value = table.value; output_at = table.output_at }))

-- the lines, where no more rows follow
abbrev pub closed : List (Item ModelLine) → Option Opened → List (Item ModelLine)
closed lines None = lines
closed lines (Some table) = lines ++ line_of_table table ∷ []

abbrev pub with_closed : Known → Known
with_closed known = record known { lines = closed known.lines known.table; table = None }

-- a line more that mentions names
abbrev pub with_line : Known → List Mention → LineKind → Known
with_line known mentions kind = record known {
  named = with_mentions known.named mentions;
  lines = closed known.lines known.table ++ own (numbers_in known.named mentions) kind ∷ [];
  table = None;
}

-- a latch more
abbrev pub with_latch : Known → LatchParts → Known
with_latch known latch =
    let line = with_line known (used latch.input ∷ driven latch.output ∷ []) (kinds.Latch latch.init) in
    record line { clocking = first_clocking known.clocking latch.clocking }

abbrev pub with_latch_of : Known → Option LatchParts → Known
with_latch_of known None = with_closed known
with_latch_of known (Some latch) = with_latch known latch

-- a table more, by what it mentions, how many inputs it has and its output
abbrev pub with_table : Known → List Mention → ℕ → PlacedToken → Known
with_table known mentions width output = record known {
  named = with_mentions known.named mentions;
  lines = closed known.lines known.table;
  table = Some (record {
    mentions = numbers_in known.named mentions;
    width = width;
    rows = [];
    value = true;
    output_at = output.at;
  });
}

-- how many inputs a table has with these names
abbrev pub width_in : List PlacedToken → ℕ
width_in [] = 0
width_in (word ∷ words) = length words

abbrev pub with_table_of : Known → List PlacedToken → Option PlacedToken → Known
with_table_of known words None = with_closed known
with_table_of known words (Some output) = with_table known (mentions_of_names words) (width_in words) output

-- a row more of the table
abbrev pub row_onto : Opened → Option Row → Opened
row_onto table None = table
row_onto table (Some row) = record table { rows = table.rows ++ row.marks ∷ []; value = is_one row.output.text }

abbrev pub row_on : List PlacedToken → Opened → Opened
row_on words table = row_onto table (row_of table.width words)

-- what a command adds
abbrev pub said_with : Known → Command → List PlacedToken → Known
said_with known commands.Model words = with_closed known
said_with known commands.Inputs words = with_line known (map driven words) kinds.Inputs
said_with known commands.Outputs words = with_line known (map used words) kinds.Outputs
said_with known commands.Names words = with_table_of known words (last_of words)
said_with known commands.Latch words = with_latch_of known (latch_of words)
said_with known commands.Clock words = with_closed known
said_with known commands.End words = with_closed known
said_with known commands.Unknown words = with_closed known
said_with known commands.Row words = record known { table = option_map (row_on words) known.table }

-- what is known after a command
abbrev pub after_command : Known → Command → Known
after_command known command = record known {
  begun = true;
  titled = is_titled known.titled command;
  ended = is_ended known.ended command;
}

abbrev pub known_by_command : Known → Command → List PlacedToken → Known
known_by_command known command words = after_command (said_with known command words) command

-- what the lines before a line have said of its form
abbrev pub width_of_open : Option Opened → Option ℕ
width_of_open None = None
width_of_open (Some table) = Some table.width

abbrev pub flags_in : Known → Flags
flags_in known = record {
  width = width_of_open known.table;
  begun = known.begun;
  titled = known.titled;
  ended = known.ended;
}

-- the output of the first row
abbrev pub first_of : Opened → Option Bool
first_of table = cond (nat_le 1 (length table.rows)) (Some table.value) None

abbrev pub row_fault_of : Opened → Option Row → Option BlifFault
row_fault_of table None = None
row_fault_of table (Some row) = output_fault (first_of table) row.output

abbrev pub row_fault_on : Option Opened → List PlacedToken → Option BlifFault
row_fault_on None words = None
row_fault_on (Some table) words = row_fault_of table (row_of table.width words)

abbrev pub latch_fault_of : Known → LatchParts → Option BlifFault
latch_fault_of known latch =
    option_or (names_fault_in known.named (used latch.input ∷ driven latch.output ∷ []))
    (clocking_fault known.clocking latch.clocking)

-- the first fault of a line behind its first word
abbrev pub said_fault : Known → Command → List PlacedToken → Option BlifFault
said_fault known commands.Model words = names_fault_in known.named (mentions_of commands.Model words)
said_fault known commands.Inputs words = names_fault_in known.named (mentions_of commands.Inputs words)
said_fault known commands.Outputs words = names_fault_in known.named (mentions_of commands.Outputs words)
said_fault known commands.Names words = names_fault_in known.named (mentions_of commands.Names words)
said_fault known commands.Latch words =
    option_or (names_fault_in known.named (mentions_of commands.Latch words))
    (latch_fault known.clocking (latch_of words))
said_fault known commands.Clock words = names_fault_in known.named (mentions_of commands.Clock words)
said_fault known commands.End words = names_fault_in known.named (mentions_of commands.End words)
said_fault known commands.Unknown words = names_fault_in known.named (mentions_of commands.Unknown words)
said_fault known commands.Row words = row_fault_on known.table words

abbrev pub head_fault_in : Known → Command → PlacedToken → List PlacedToken → Option BlifFault
head_fault_in known command head words =
    option_map (λ fault. fault head.place) (head_rule_by (flags_in known) command words)

abbrev pub command_fault_in : Known → Command → PlacedToken → List PlacedToken → Option BlifFault
command_fault_in known command head words =
    option_or (head_fault_in known command head words) (said_fault known command words)

-- a fault, or else what comes later
abbrev pub raised : {A : Type 0} → Option BlifFault → Result A BlifFault → Result A BlifFault
raised None later = later
raised (Some fault) later = Err fault

-- the names, and the model by their numbers
abbrev pub text_of : Known → ModelText
text_of known = record {
  names = known.named.names;
  model = record { names = length known.named.names; items = closed known.lines known.table };
}
