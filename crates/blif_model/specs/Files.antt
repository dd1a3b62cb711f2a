-- What a text of several models says. Each begins at its `.model`, of which the first may be missing, and ends at its
-- `.end`, at the next `.model` or at the text's end; the first is the top. A `.subckt` places a model (Berkeley Logic
-- Interchange Format, models and model references). Each model's own lines say what they would alone, and their faults
-- are counted model by model.
use Rattle.std.specs.Prelude.{ℕ, Bool, false, not, cond, List, [], ◌∷◌, ◌++◌, length, codes, Option, None, Some, Result, Ok, Err}
use Rattle.std.specs.List.{flat_map, fold, position_from}
use Rattle.std.specs.Option.{option_map, option_or}
use Rattle.std.specs.Str.{bytes_eq}
use Rattle.psl_base.specs.Tokens.{PlacedToken}
use Rattle.psl_base.specs.declared.place.Place.{Place as PlaceOf}
use Rattle.blif_model.specs.declared.command.Command.{Command}
use Rattle.blif_model.specs.declared.command.Command.TheVariants as commands
use Rattle.blif_model.specs.declared.fault.BlifFault.{BlifFault}
use Rattle.blif_model.specs.declared.fault.BlifFault.TheVariants.{BadModel, MissingEnd, SecondModel}
use Rattle.blif_model.specs.declared.file.FileCommand.{FileCommand}
use Rattle.blif_model.specs.declared.file.FileCommand.TheVariants.{Begin, Place, Own}
use Rattle.blif_model.specs.Commands.{command_of}
use Rattle.blif_model.specs.Lines.{Line, lines}
use Rattle.blif_model.specs.Models.{Model}
use Rattle.blif_model.specs.Names.{is_new}
use Rattle.blif_model.specs.Rules.{command_fault, flags_of, is_bad_model}
use Rattle.blif_model.specs.Standing.{Standing, at_first, standing_by_command, words_of}

-- what a line is by its first word
abbrev pub file_command_of : List ℕ → FileCommand
file_command_of word =
    cond (bytes_eq word (codes ".model")) Begin
    (cond (bytes_eq word (codes ".subckt")) Place (Own (command_of word)))

-- a `.subckt`: its word, the words behind it, and how many lines say something of the model before it
pub record Placing : Type 0 where
  pub head : PlacedToken
  pub words : List PlacedToken
  pub before : ℕ

-- a model of a file: its name, where it has one, what its own lines say, the names in its `.clock`s, and what is placed in
-- it. The own lines are given by words, or with numbers in place of their names
pub record Part (Own : Type 0) : Type 0 where
  pub title : Option PlacedToken
  pub own : Own
  pub clocks : List PlacedToken
  pub placings : List Placing

-- what lines have said: the models before the one that is read, and of this one its name, what its own lines have said, the
-- names in its `.clock`s, and what is placed in it
pub record FileStanding : Type 0 where
  pub earlier : List (Part Model)
  pub title : Option PlacedToken
  pub own : Standing
  pub clocks : List PlacedToken
  pub placings : List Placing

abbrev pub no_file : FileStanding
no_file = record { earlier = []; title = None; own = at_first; clocks = []; placings = [] }

-- the model that is read
abbrev pub part_of : FileStanding → Part Model
part_of file = record {
  title = file.title;
  own = file.own.model;
  clocks = file.clocks;
  placings = file.placings;
}

-- all models, that one the last
abbrev pub parts_of : FileStanding → List (Part Model)
parts_of file = file.earlier ++ part_of file ∷ []

-- the names of models
abbrev pub title_text : Option PlacedToken → List (List ℕ)
title_text None = []
title_text (Some title) = title.text ∷ []

abbrev pub titles_of : FileStanding → List (List ℕ)
titles_of file = flat_map (λ (part : Part Model). title_text part.title) file.earlier ++ title_text file.title

abbrev pub first_of : List PlacedToken → Option PlacedToken
first_of [] = None
first_of (word ∷ words) = Some word

-- a model begins: the first one, where none has a name yet, or a further one
abbrev pub begun_as : FileStanding → List PlacedToken → Option PlacedToken → FileStanding
begun_as file words None =
    record file { title = first_of words; own = standing_by_command file.own commands.Model words }
begun_as file words (Some title) = record {
  earlier = parts_of file;
  title = first_of words;
  own = standing_by_command at_first commands.Model words;
  clocks = [];
  placings = [];
}

abbrev pub begun_by : FileStanding → List PlacedToken → FileStanding
begun_by file words = begun_as file words file.title

-- a model is placed. For the own lines of the model in which it stands this is a command that says nothing
abbrev pub placed_by : FileStanding → PlacedToken → List PlacedToken → FileStanding
placed_by file head words =
    record file {
      own = standing_by_command file.own commands.Clock [];
      placings = file.placings ++ record { head = head; words = words; before = length file.own.model.statements } ∷ [];
    }

abbrev pub clocks_by : Command → List PlacedToken → List PlacedToken
clocks_by commands.Model words = []
clocks_by commands.Inputs words = []
clocks_by commands.Outputs words = []
clocks_by commands.Names words = []
clocks_by commands.Latch words = []
clocks_by commands.Clock words = words
clocks_by commands.End words = []
clocks_by commands.Unknown words = []
clocks_by commands.Row words = []

-- a line of the model that is read
abbrev pub said_by_own : FileStanding → Command → List PlacedToken → FileStanding
said_by_own file command words =
    record file { own = standing_by_command file.own command words; clocks = file.clocks ++ clocks_by command words }

abbrev pub file_by_command : FileStanding → FileCommand → PlacedToken → List PlacedToken → FileStanding
file_by_command file Begin head words = begun_by file words
file_by_command file Place head words = placed_by file head words
file_by_command file (Own command) head words = said_by_own file command (words_of command head words)

abbrev pub file_after_words : FileStanding → List PlacedToken → FileStanding
file_after_words file [] = file
file_after_words file (head ∷ words) = file_by_command file (file_command_of head.text) head words

abbrev pub file_after : FileStanding → Line → FileStanding
file_after file line = file_after_words file line.words

-- what some lines say, from the first one on
abbrev pub file_by : List Line → FileStanding
file_by lines = fold file_after no_file lines

-- SecondModel: a model of that name stood before. BadModel: not just one name, or a first one behind another command
abbrev pub is_repeated : List (List ℕ) → List PlacedToken → Bool
is_repeated titles [] = false
is_repeated titles (word ∷ words) = not (is_new titles word.text)

abbrev pub begin_rule : Bool → Bool → Option (PlaceOf → BlifFault)
begin_rule bad repeated = cond bad (Some BadModel) (cond repeated (Some SecondModel) None)

abbrev pub begin_fault : FileStanding → PlacedToken → List PlacedToken → Option BlifFault
begin_fault file head words =
    option_map (λ rule. rule head.place)
    (begin_rule (is_bad_model (flags_of file.own) words) (is_repeated (titles_of file) words))

-- the faults of other lines are those of the model that is read
abbrev pub file_fault_by : FileStanding → FileCommand → PlacedToken → List PlacedToken → Option BlifFault
file_fault_by file Begin head words = begin_fault file head words
file_fault_by file Place head words = command_fault file.own commands.Clock head []
file_fault_by file (Own command) head words = command_fault file.own command head (words_of command head words)

abbrev pub file_words_fault : FileStanding → List PlacedToken → Option BlifFault
file_words_fault file [] = None
file_words_fault file (head ∷ words) = file_fault_by file (file_command_of head.text) head words

abbrev pub file_line_fault : FileStanding → Line → Option BlifFault
file_line_fault file line = option_or (file_words_fault file line.words) (option_map MissingEnd line.stray)

-- the first fault of lines that stand behind others
abbrev pub first_file_fault : List Line → List Line → Option BlifFault
first_file_fault before [] = None
first_file_fault before (line ∷ rest) =
    option_or (file_line_fault (file_by before) line) (first_file_fault (before ++ line ∷ []) rest)

-- a value, or a fault in its place
abbrev pub unless : {A B : Type 0} → Option B → A → Result A B
unless None value = Ok value
unless (Some failed) value = Err failed

-- the models that the lines of a text say, or the first fault of these
abbrev pub models_of : List ℕ → Result (List (Part Model)) BlifFault
models_of text = unless (first_file_fault [] (lines text)) (parts_of (file_by (lines text)))

-- a model has this name
abbrev pub is_named : List ℕ → Option PlacedToken → Bool
is_named name None = false
is_named name (Some title) = bytes_eq name title.text

-- the number of the model of a name, counted from 0: of the first one that has it
abbrev pub model_named : {Own : Type 0} → List (Part Own) → List ℕ → Option ℕ
model_named parts name = position_from (λ part. is_named name part.title) 0 parts
