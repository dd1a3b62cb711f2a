-- The faults of a netlist's text, each a test of a line or a word and of what stands before it (Berkeley Logic
-- Interchange Format). Of several in one line the first is named, and of several at one word the first in this file.
use Rattle.std.specs.Prelude.{ℕ, nat_le, Bool, true, false, not, ◌&&◌, ◌||◌, cond, List, [], ◌∷◌, ◌++◌, length, Option, None, Some, is_none}
use Rattle.std.specs.Option.{option_map, option_or}
use Rattle.std.specs.Str.{bytes_eq}
use Rattle.psl_base.specs.Tokens.{PlacedToken}
use Rattle.psl_base.specs.declared.place.Place.{Place}
use Rattle.blif_model.specs.declared.command.Command.{Command}
use Rattle.blif_model.specs.declared.command.Command.TheVariants as commands
use Rattle.blif_model.specs.declared.fault.BlifFault.{BlifFault}
use Rattle.blif_model.specs.declared.fault.BlifFault.TheVariants.{UnknownCommand, BadRow, MixedRows, BadLatch, LatchType, TwoClocks, DrivenTwice, SecondModel, TooLarge}
use Rattle.blif_model.specs.declared.flags.Flags.{Flags}
use Rattle.blif_model.specs.declared.names.TheConstants.{SIGNAL_LIMIT}
use Rattle.blif_model.specs.Models.{Gate, Mention, is_mentioned, is_driven, names_of}
use Rattle.blif_model.specs.Shapes.{Clocking, LatchParts, Row, row_of, latch_of, is_level, is_one}
use Rattle.blif_model.specs.Standing.{Standing, last_table, mentions_of}

-- how many distinct names of signals a model has at most
abbrev pub signal_limit : ℕ
signal_limit = SIGNAL_LIMIT

-- UnknownCommand: the first word begins with a dot and is no command
abbrev pub is_unknown : Command → Bool
is_unknown commands.Model = false
is_unknown commands.Inputs = false
is_unknown commands.Outputs = false
is_unknown commands.Names = false
is_unknown commands.Latch = false
is_unknown commands.Clock = false
is_unknown commands.End = false
is_unknown commands.Unknown = true
is_unknown commands.Row = false

-- BadModel: a `.model` without just one name, or a first one behind another command
abbrev pub has_one : List PlacedToken → Bool
has_one (word ∷ []) = true
has_one words = false

abbrev pub is_bad_model : Flags → List PlacedToken → Bool
is_bad_model flags words = not (has_one words) || (flags.begun && not flags.titled)

-- BadRow: a line that is no command and no row of the table above it; or a `.names` without a name
abbrev pub is_row : Option ℕ → List PlacedToken → Bool
is_row None words = false
is_row (Some width) words = not (is_none (row_of width words))

abbrev pub has_none : List PlacedToken → Bool
has_none [] = true
has_none (word ∷ words) = false

abbrev pub is_bad_row : Flags → Command → List PlacedToken → Bool
is_bad_row flags commands.Model words = false
is_bad_row flags commands.Inputs words = false
is_bad_row flags commands.Outputs words = false
is_bad_row flags commands.Names words = has_none words
is_bad_row flags commands.Latch words = false
is_bad_row flags commands.Clock words = false
is_bad_row flags commands.End words = false
is_bad_row flags commands.Unknown words = false
is_bad_row flags commands.Row words = not (is_row flags.width words)

-- BadLatch: words that are no latch
abbrev pub is_bad_latch : Command → List PlacedToken → Bool
is_bad_latch commands.Model words = false
is_bad_latch commands.Inputs words = false
is_bad_latch commands.Outputs words = false
is_bad_latch commands.Names words = false
is_bad_latch commands.Latch words = is_none (latch_of words)
is_bad_latch commands.Clock words = false
is_bad_latch commands.End words = false
is_bad_latch commands.Unknown words = false
is_bad_latch commands.Row words = false

-- the fault at the first word of a line of a model behind its `.model`, where it has one: it wants its place.
-- SecondModel: the line stands behind `.end`
abbrev pub head_rule_by : Flags → Command → List PlacedToken → Option (Place → BlifFault)
head_rule_by flags command words =
    cond (is_unknown command) (Some UnknownCommand)
    (cond (is_bad_row flags command words) (Some BadRow)
    (cond (is_bad_latch command words) (Some BadLatch)
    (cond flags.ended (Some SecondModel) None)))

-- the table whose rows may follow has so many inputs
abbrev pub width_of : Bool → Option Gate → Option ℕ
width_of true (Some gate) = Some (length gate.inputs)
width_of in_table gate = None

abbrev pub flags_of : Standing → Flags
flags_of standing = record {
  width = width_of standing.in_table (last_table standing.model.statements);
  begun = standing.begun;
  titled = standing.titled;
  ended = standing.ended;
}

abbrev pub head_rule : Standing → Command → List PlacedToken → Option (Place → BlifFault)
head_rule standing command words = head_rule_by (flags_of standing) command words

-- the fault of a name, by the names before it. DrivenTwice: it is driven already; TooLarge: it is one past the limit
abbrev pub name_rule : List Mention → Mention → Option (Place → BlifFault)
name_rule before mention =
    cond (mention.drives && is_driven before mention.word) (Some DrivenTwice)
    (cond (not (is_mentioned before mention.word) && nat_le signal_limit (length (names_of before))) (Some TooLarge) None)

-- the first fault of names that stand behind others
abbrev pub names_fault : List Mention → List Mention → Option BlifFault
names_fault before [] = None
names_fault before (mention ∷ mentions) =
    option_or (option_map (λ fault. fault mention.word.place) (name_rule before mention)) (names_fault (before ++ mention ∷ []) mentions)

-- MixedRows: the output of a row differs from that of the first row of its table
abbrev pub has_rows : Gate → Bool
has_rows gate = nat_le 1 (length gate.rows)

abbrev pub differs : Bool → Bool → Bool
differs true value = not value
differs false value = value

-- the output of the first row of a table
abbrev pub first_output : Gate → Option Bool
first_output gate = cond (has_rows gate) (Some gate.value) None

abbrev pub output_fault : Option Bool → PlacedToken → Option BlifFault
output_fault None word = None
output_fault (Some first) word = cond (differs first (is_one word.text)) (Some (MixedRows word.place)) None

abbrev pub row_fault_in : Gate → Option Row → Option BlifFault
row_fault_in gate None = None
row_fault_in gate (Some row) = output_fault (first_output gate) row.output

abbrev pub row_fault : Option Gate → List PlacedToken → Option BlifFault
row_fault None words = None
row_fault (Some gate) words = row_fault_in gate (row_of (length gate.inputs) words)

-- LatchType: a type that does not move all latches at once. TwoClocks: a type and control that differ from earlier ones
abbrev pub differ : Option Clocking → Clocking → Bool
differ None clocking = false
differ (Some earlier) clocking = not (bytes_eq earlier.kind.text clocking.kind.text && bytes_eq earlier.control.text clocking.control.text)

abbrev pub clocking_fault : Option Clocking → Option Clocking → Option BlifFault
clocking_fault earlier None = None
clocking_fault earlier (Some clocking) =
    cond (is_level clocking.kind.text) (Some (LatchType clocking.kind.place))
    (cond (differ earlier clocking) (Some (TwoClocks clocking.kind.place)) None)

abbrev pub latch_fault : Option Clocking → Option LatchParts → Option BlifFault
latch_fault earlier None = None
latch_fault earlier (Some latch) = clocking_fault earlier latch.clocking

-- the first fault behind the first word of a line
abbrev pub tail_fault : Standing → Command → List PlacedToken → Option BlifFault
tail_fault standing commands.Model words = names_fault standing.model.mentions (mentions_of commands.Model words)
tail_fault standing commands.Inputs words = names_fault standing.model.mentions (mentions_of commands.Inputs words)
tail_fault standing commands.Outputs words = names_fault standing.model.mentions (mentions_of commands.Outputs words)
tail_fault standing commands.Names words = names_fault standing.model.mentions (mentions_of commands.Names words)
tail_fault standing commands.Latch words =
    option_or (names_fault standing.model.mentions (mentions_of commands.Latch words)) (latch_fault standing.clocking (latch_of words))
tail_fault standing commands.Clock words = names_fault standing.model.mentions (mentions_of commands.Clock words)
tail_fault standing commands.End words = names_fault standing.model.mentions (mentions_of commands.End words)
tail_fault standing commands.Unknown words = names_fault standing.model.mentions (mentions_of commands.Unknown words)
tail_fault standing commands.Row words = row_fault (last_table standing.model.statements) words

abbrev pub command_fault : Standing → Command → PlacedToken → List PlacedToken → Option BlifFault
command_fault standing command head words =
    option_or (option_map (λ fault. fault head.place) (head_rule standing command words)) (tail_fault standing command words)
