-- What is known of a text of several models after some of its lines, and how each line adds to it: what the code is
-- proved against. That this is what the definitions say is the law of reading files.
use Rattle.std.specs.Prelude.{◌≡◌, ℕ, Bool, cond, List, [], ◌∷◌, ◌++◌, length, map, All, Option, None, Some, IfSome, Result, Ok}
use Rattle.std.specs.Option.{option_map, option_or}
use Rattle.psl_base.specs.Tokens.{PlacedToken}
use Rattle.blif_model.specs.declared.command.Command.{Command}
use Rattle.blif_model.specs.declared.command.Command.TheVariants as commands
use Rattle.blif_model.specs.declared.fault.BlifFault.{BlifFault}
use Rattle.blif_model.specs.declared.fault.BlifFault.TheVariants.{MissingEnd}
use Rattle.blif_model.specs.declared.file.FileCommand.{FileCommand}
use Rattle.blif_model.specs.declared.file.FileCommand.TheVariants.{Begin, Place, Own}
use Rattle.blif_model.specs.declared.file.FileModel.{FileModel}
use Rattle.blif_model.specs.declared.file.FileText.{FileText}
use Rattle.blif_model.specs.declared.file.OwnText.{OwnText}
use Rattle.blif_model.specs.declared.file.PlacementLine.{PlacementLine}
use Rattle.blif_model.specs.declared.pieces.Span.{Span}
use Rattle.blif_model.specs.declared.text.ModelText.{ModelText}
use Rattle.blif_model.specs.Commands.{is_table_row}
use Rattle.blif_model.specs.Files.{Part, Placing, begin_rule, clocks_by, file_command_of, first_of, is_repeated, model_named, models_of, title_text}
use Rattle.blif_model.specs.Known.{Known, closed, command_fault_in, flags_in, known_by_command, nothing_known, raised, text_of}
use Rattle.blif_model.specs.Lines.{Line}
use Rattle.blif_model.specs.Models.{Model}
use Rattle.blif_model.specs.Names.{named_by, place_of}
use Rattle.blif_model.specs.Numbered.{numbered}
use Rattle.blif_model.specs.Rules.{is_bad_model}
use Rattle.blif_model.specs.Scanning.{IsWithin, word_of}
use Rattle.blif_model.specs.Standing.{words_of}

-- what the own lines of a model say: its names and lines by numbers, of each name whether a line drives it, and the word
-- that mentions it first
pub record OwnLines : Type 0 where
  pub text : ModelText
  pub driven : List Bool
  pub firsts : List PlacedToken

-- what is known: the models before the one that is read, the names of all, and of this one its name, what its own lines
-- say, the names in its `.clock`s, and what is placed in it
pub record FileKnown : Type 0 where
  pub earlier : List (Part OwnLines)
  pub titles : List (List ℕ)
  pub title : Option PlacedToken
  pub own : Known
  pub clocks : List PlacedToken
  pub placings : List Placing

abbrev pub no_file_known : List ℕ → FileKnown
no_file_known whole =
    record { earlier = []; titles = []; title = None; own = nothing_known whole; clocks = []; placings = [] }

abbrev pub own_known : Known → OwnLines
own_known known = record { text = text_of known; driven = known.named.driven; firsts = known.named.firsts }

abbrev pub part_known : FileKnown → Part OwnLines
part_known file = record {
  title = file.title;
  own = own_known file.own;
  clocks = file.clocks;
  placings = file.placings;
}

abbrev pub parts_known : FileKnown → List (Part OwnLines)
parts_known file = file.earlier ++ part_known file ∷ []

-- the model that is read is over, and nothing is known of a further one
abbrev pub known_over : FileKnown → FileKnown
known_over file = record {
  earlier = parts_known file;
  titles = file.titles;
  title = None;
  own = nothing_known file.own.named.whole;
  clocks = [];
  placings = [];
}

-- a model begins
abbrev pub titled_by : FileKnown → List PlacedToken → FileKnown
titled_by file words =
    record file {
      titles = file.titles ++ title_text (first_of words);
      title = first_of words;
      own = known_by_command file.own commands.Model words;
    }

abbrev pub known_begun_as : FileKnown → List PlacedToken → Option PlacedToken → FileKnown
known_begun_as file words None = titled_by file words
known_begun_as file words (Some title) = titled_by (known_over file) words

abbrev pub known_begun : FileKnown → List PlacedToken → FileKnown
known_begun file words = known_begun_as file words file.title

-- a model is placed
abbrev pub known_placed : FileKnown → PlacedToken → List PlacedToken → FileKnown
known_placed file head words =
    record file {
      own = known_by_command file.own commands.Clock [];
      placings = file.placings ++ record { head = head; words = words; before = length (closed file.own.lines file.own.table) } ∷ [];
    }

-- a line of the model that is read
abbrev pub known_own : FileKnown → Command → List PlacedToken → FileKnown
known_own file command words =
    record file { own = known_by_command file.own command words; clocks = file.clocks ++ clocks_by command words }

abbrev pub file_known_by : FileKnown → FileCommand → PlacedToken → List PlacedToken → FileKnown
file_known_by file Begin head words = known_begun file words
file_known_by file Place head words = known_placed file head words
file_known_by file (Own command) head words = known_own file command (words_of command head words)

abbrev pub file_known_after : FileKnown → List PlacedToken → FileKnown
file_known_after file [] = file
file_known_after file (head ∷ words) = file_known_by file (file_command_of head.text) head words

-- the fault of a line
abbrev pub begin_fault_in : FileKnown → PlacedToken → List PlacedToken → Option BlifFault
begin_fault_in file head words =
    option_map (λ rule. rule head.place)
    (begin_rule (is_bad_model (flags_in file.own) words) (is_repeated file.titles words))

abbrev pub file_command_fault_in : FileKnown → FileCommand → PlacedToken → List PlacedToken → Option BlifFault
file_command_fault_in file Begin head words = begin_fault_in file head words
file_command_fault_in file Place head words = command_fault_in file.own commands.Clock head []
file_command_fault_in file (Own command) head words = command_fault_in file.own command head (words_of command head words)

abbrev pub file_fault_in : FileKnown → List PlacedToken → Option BlifFault
file_fault_in file [] = None
file_fault_in file (head ∷ words) = file_command_fault_in file (file_command_of head.text) head words

abbrev pub file_line_fault_in : FileKnown → Line → Option BlifFault
file_line_fault_in file line = option_or (file_fault_in file line.words) (option_map MissingEnd line.stray)

-- what lines say, from what is known before them
abbrev pub file_running : FileKnown → List Line → Result FileKnown BlifFault
file_running file [] = Ok file
file_running file (line ∷ lines) = raised (file_line_fault_in file line) (file_running (file_known_after file line.words) lines)

-- a model whose own lines are given by words, with numbers in place of their names
abbrev pub numbered_own : List ℕ → Model → OwnLines
numbered_own whole model =
    let named = named_by whole model.mentions in
    record { text = numbered model; driven = named.driven; firsts = named.firsts }

abbrev pub numbered_part : List ℕ → Part Model → Part OwnLines
numbered_part whole part =
    record { title = part.title; own = numbered_own whole part.own; clocks = part.clocks; placings = part.placings }

-- a model by spans, as it stands in a text
abbrev pub placing_in : List ℕ → PlacementLine → Placing
placing_in whole line =
    record { head = word_of whole line.head; words = map (word_of whole) line.words; before = line.before }

abbrev pub own_in : List ℕ → OwnText → OwnLines
own_in whole own = record { text = own.text; driven = own.driven; firsts = map (word_of whole) own.firsts }

abbrev pub part_in : List ℕ → FileModel → Part OwnLines
part_in whole model = record {
  title = option_map (word_of whole) model.title;
  own = own_in whole model.own;
  clocks = map (word_of whole) model.clocks;
  placings = map (placing_in whole) model.placements;
}

-- all spans are of the text
abbrev pub IsPlacementWithin : List ℕ → PlacementLine → Type 0
IsPlacementWithin whole line = IsWithin whole line.head × All (IsWithin whole) line.words

abbrev pub IsModelWithin : List ℕ → FileModel → Type 0
IsModelWithin whole model =
    IfSome model.title (IsWithin whole) × All (IsWithin whole) model.own.firsts × All (IsWithin whole) model.clocks
    × All (IsPlacementWithin whole) model.placements

-- models by numbers; and the place of a name among the names of models is the number of its model
abbrev pub IsNumbered : List ℕ → FileText → List (Part Model) → Type 0
IsNumbered whole text parts =
    (map (part_in whole) text.models ≡ map (numbered_part whole) parts)
    × ((name : List ℕ) → place_of text.titles name ≡ model_named parts name)

-- the words that belong to a command, of all words of a line and of those behind the first: all of a row
abbrev pub spans_of : Command → List Span → List Span → List Span
spans_of command words rest = cond (is_table_row command) words rest

-- a text says models, which these are by numbers
abbrev pub FileSays : List ℕ → FileText → Type 0
FileSays whole text = (parts : List (Part Model)) × (models_of whole ≡ Ok parts) × IsNumbered whole text parts

-- lines say what is known in the end, and these are its models and their names
abbrev pub AreSaidOf : List ℕ → Result FileKnown BlifFault → FileText → Type 0
AreSaidOf whole outcome text =
    (file : FileKnown) × (outcome ≡ Ok file) × (map (part_in whole) text.models ≡ parts_known file) × (text.titles ≡ file.titles)
