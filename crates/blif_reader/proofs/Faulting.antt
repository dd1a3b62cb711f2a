-- What is wrong with a text is a fault of the text, and none of reading it or of memory.
use Rattle.std.proofs.Common.{◌≡◌, ℕ, Bool, true, false, cond, not, ◌&&◌, List, [], ◌∷◌, ◌++◌, length, Option, None, Some, sym, subst, ◌⊎◌, inl, inr}
use Rattle.std.specs.Option.{option_map, option_or}
use Rattle.std.specs.Prelude.{nat_le, Err}
use Rattle.psl_base.specs.Tokens.{PlacedToken}
use Rattle.psl_base.specs.declared.place.Place.{Place as PlaceOf}
use Rattle.blif_model.specs.declared.command.Command.{Command}
use Rattle.blif_model.specs.declared.command.Command.TheVariants as commands
use Rattle.blif_model.specs.declared.file.FileCommand.{FileCommand}
use Rattle.blif_model.specs.declared.file.FileCommand.TheVariants.{Begin, Place, Own}
use Rattle.blif_model.specs.declared.fault.BlifFault.{BlifFault}
use Rattle.blif_model.specs.declared.fault.BlifFault.TheVariants.{UnknownCommand, BadModel, BadRow, MixedRows, BadLatch, LatchType, TwoClocks, DrivenTwice, MissingEnd, SecondModel, TooLarge, TooLong, ReadFault, NoMemory}
use Rattle.blif_model.specs.Lines.{Line, lines}
use Rattle.blif_model.specs.Files.{FileStanding, begin_rule, file_by, file_command_of, file_fault_by, file_line_fault, file_words_fault, first_file_fault, is_repeated, models_of, parts_of, titles_of, unless}
use Rattle.blif_model.specs.Models.{Gate, Mention, is_driven, is_mentioned, names_of}
use Rattle.blif_model.specs.Rules.{is_unknown, is_bad_model, is_bad_row, is_bad_latch, flags_of, signal_limit, name_rule, names_fault, first_output, differs, output_fault, row_fault_in, row_fault, differ, clocking_fault, latch_fault, head_rule, tail_fault, command_fault}
use Rattle.blif_model.specs.Shapes.{Clocking, LatchParts, Row, row_of, latch_of, is_level, is_one}
use Rattle.blif_linking.specs.Names.{Parts}
use Rattle.blif_reader.specs.Meaning.{IsReading}
use Rattle.blif_reader.specs.Told.{IsReadFault}
use Rattle.blif_model.specs.Standing.{Standing, last_table, mentions_of, words_of}

-- a fault of the text itself
abbrev pub IsRule : BlifFault → Type 0
IsRule TooLong = ⊥
IsRule ReadFault = ⊥
IsRule NoMemory = ⊥
IsRule fault = Unit {0}

abbrev OnlyRules : Option BlifFault → Type 0
OnlyRules None = Unit {0}
OnlyRules (Some fault) = IsRule fault

abbrev AreRules : Option (PlaceOf → BlifFault) → Type 0
AreRules None = Unit {0}
AreRules (Some fault) = (place : PlaceOf) → IsRule (fault place)

or_rules : (one other : Option BlifFault) → OnlyRules one → OnlyRules other → OnlyRules (option_or one other)
or_rules None other first second = second
or_rules (Some fault) other first second = first

at_place : (found : Option (PlaceOf → BlifFault)) (place : PlaceOf) → AreRules found → OnlyRules (option_map (λ fault. fault place) found)
at_place None place rules = tt
at_place (Some fault) place rules = rules place

either : (test : Bool) (one other : Option (PlaceOf → BlifFault)) → AreRules one → AreRules other → AreRules (cond test one other)
either true one other first second = first
either false one other first second = second

where_true : (test : Bool) (one other : Option BlifFault) → OnlyRules one → OnlyRules other → OnlyRules (cond test one other)
where_true true one other first second = first
where_true false one other first second = second

head_rules : (standing : Standing) (command : Command) (words : List PlacedToken) → AreRules (head_rule standing command words)
head_rules standing command words =
    either (is_unknown command) (Some UnknownCommand) _ (λ place. tt)
    (either (is_bad_row (flags_of standing) command words) (Some BadRow) _ (λ place. tt)
    (either (is_bad_latch command words) (Some BadLatch) _ (λ place. tt)
    (either standing.ended (Some SecondModel) None (λ place. tt) tt)))

names_rules : (before mentions : List Mention) → OnlyRules (names_fault before mentions)
names_rules before [] = tt
names_rules before (mention ∷ mentions) =
    or_rules (option_map (λ fault. fault mention.word.place) (name_rule before mention)) (names_fault (before ++ mention ∷ []) mentions)
    (at_place (name_rule before mention) mention.word.place
    (either (mention.drives && is_driven before mention.word) (Some DrivenTwice)
    (cond (not (is_mentioned before mention.word) && nat_le signal_limit (length (names_of before))) (Some TooLarge) None) (λ place. tt)
    (either (not (is_mentioned before mention.word) && nat_le signal_limit (length (names_of before))) (Some TooLarge) None (λ place. tt) tt)))
    (names_rules (before ++ mention ∷ []) mentions)

output_rules : (first : Option Bool) (word : PlacedToken) → OnlyRules (output_fault first word)
output_rules None word = tt
output_rules (Some first) word = where_true (differs first (is_one word.text)) (Some (MixedRows word.place)) None tt tt

row_in_rules : (gate : Gate) (row : Option Row) → OnlyRules (row_fault_in gate row)
row_in_rules gate None = tt
row_in_rules gate (Some row) = output_rules (first_output gate) row.output

row_rules : (gate : Option Gate) (words : List PlacedToken) → OnlyRules (row_fault gate words)
row_rules None words = tt
row_rules (Some gate) words = row_in_rules gate (row_of (length gate.inputs) words)

clocking_rules : (earlier clocking : Option Clocking) → OnlyRules (clocking_fault earlier clocking)
clocking_rules earlier None = tt
clocking_rules earlier (Some clocking) =
    where_true (is_level clocking.kind.text) (Some (LatchType clocking.kind.place)) _ tt
    (where_true (differ earlier clocking) (Some (TwoClocks clocking.kind.place)) None tt tt)

latch_rules : (earlier : Option Clocking) (latch : Option LatchParts) → OnlyRules (latch_fault earlier latch)
latch_rules earlier None = tt
latch_rules earlier (Some latch) = clocking_rules earlier latch.clocking

tail_rules : (standing : Standing) (command : Command) (words : List PlacedToken) → OnlyRules (tail_fault standing command words)
tail_rules standing commands.Model words = names_rules standing.model.mentions (mentions_of commands.Model words)
tail_rules standing commands.Inputs words = names_rules standing.model.mentions (mentions_of commands.Inputs words)
tail_rules standing commands.Outputs words = names_rules standing.model.mentions (mentions_of commands.Outputs words)
tail_rules standing commands.Names words = names_rules standing.model.mentions (mentions_of commands.Names words)
tail_rules standing commands.Latch words =
    or_rules (names_fault standing.model.mentions (mentions_of commands.Latch words)) (latch_fault standing.clocking (latch_of words))
    (names_rules standing.model.mentions (mentions_of commands.Latch words)) (latch_rules standing.clocking (latch_of words))
tail_rules standing commands.Clock words = names_rules standing.model.mentions (mentions_of commands.Clock words)
tail_rules standing commands.End words = names_rules standing.model.mentions (mentions_of commands.End words)
tail_rules standing commands.Unknown words = names_rules standing.model.mentions (mentions_of commands.Unknown words)
tail_rules standing commands.Row words = row_rules (last_table standing.model.statements) words

command_rules : (standing : Standing) (command : Command) (head : PlacedToken) (words : List PlacedToken) → OnlyRules (command_fault standing command head words)
command_rules standing command head words =
    or_rules (option_map (λ fault. fault head.place) (head_rule standing command words)) (tail_fault standing command words)
    (at_place (head_rule standing command words) head.place (head_rules standing command words)) (tail_rules standing command words)

begin_rules : (bad repeated : Bool) → AreRules (begin_rule bad repeated)
begin_rules bad repeated =
    either bad (Some BadModel) (cond repeated (Some SecondModel) None) (λ place. tt) (either repeated (Some SecondModel) None (λ place. tt) tt)

by_command_rules : (file : FileStanding) (command : FileCommand) (head : PlacedToken) (words : List PlacedToken) → OnlyRules (file_fault_by file command head words)
by_command_rules file Begin head words =
    at_place (begin_rule (is_bad_model (flags_of file.own) words) (is_repeated (titles_of file) words)) head.place
    (begin_rules (is_bad_model (flags_of file.own) words) (is_repeated (titles_of file) words))
by_command_rules file Place head words = command_rules file.own commands.Clock head []
by_command_rules file (Own command) head words = command_rules file.own command head (words_of command head words)

words_rules : (file : FileStanding) (words : List PlacedToken) → OnlyRules (file_words_fault file words)
words_rules file [] = tt
words_rules file (head ∷ words) = by_command_rules file (file_command_of head.text) head words

stray_rules : (stray : Option PlaceOf) → OnlyRules (option_map MissingEnd stray)
stray_rules None = tt
stray_rules (Some place) = tt

lines_rules : (before rest : List Line) → OnlyRules (first_file_fault before rest)
lines_rules before [] = tt
lines_rules before (line ∷ rest) =
    or_rules (file_line_fault (file_by before) line) (first_file_fault (before ++ line ∷ []) rest)
    (or_rules (file_words_fault (file_by before) line.words) (option_map MissingEnd line.stray) (words_rules (file_by before) line.words) (stray_rules line.stray))
    (lines_rules (before ++ line ∷ []) rest)

by_fault : (fault : Option BlifFault) (parts : Parts) (found : BlifFault) → OnlyRules fault → unless fault parts ≡ Err found → IsRule found
by_fault None parts found rules is = cc
by_fault (Some fault) parts found rules is = let same : fault ≡ found = cc in subst IsRule same rules

-- a fault of the lines of a text is one of these
pub text-rule : (text : List ℕ) (found : BlifFault) → models_of text ≡ Err found → IsRule found
text-rule text found is = by_fault (first_file_fault [] (lines text)) (parts_of (file_by (lines text))) found (lines_rules [] (lines text)) is

-- a first fault of a text is one that reading answers
read_fault : (text : List ℕ) (found : BlifFault) → IsRule found → IsReading text (Err found) → IsReadFault text found
read_fault text TooLong rule is = rule
read_fault text ReadFault rule is = rule
read_fault text NoMemory rule is = tt
read_fault text found rule is = is

no_memory : (text : List ℕ) (found : BlifFault) → found ≡ NoMemory → IsReadFault text found
no_memory text found is = subst (λ (fault : BlifFault). IsReadFault text fault) (sym is) tt

pub read-fault : (text : List ℕ) (found : BlifFault) → (found ≡ NoMemory) ⊎ (models_of text ≡ Err found) → IsReadFault text found
read-fault text found (inl is) = no_memory text found is
read-fault text found (inr is) = read_fault text found (text-rule text found is) (inl is)
