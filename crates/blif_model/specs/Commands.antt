-- What a line is by its first word.
use Rattle.std.specs.Prelude.{ℕ, ◌==◌, Bool, true, false, cond, List, [], ◌∷◌, codes}
use Rattle.std.specs.Str.{bytes_eq}
use Rattle.blif_model.specs.declared.command.Command.{Command}
use Rattle.blif_model.specs.declared.command.Command.TheVariants.{Model, Inputs, Outputs, Names, Latch, Clock, End, Unknown, Row}

-- a row of the table above: its words are all of the line, and none is a command
abbrev pub is_table_row : Command → Bool
is_table_row Model = false
is_table_row Inputs = false
is_table_row Outputs = false
is_table_row Names = false
is_table_row Latch = false
is_table_row Clock = false
is_table_row End = false
is_table_row Unknown = false
is_table_row Row = true

abbrev pub begins_with_dot : List ℕ → Bool
begins_with_dot [] = false
begins_with_dot (byte ∷ bytes) = byte == 46

abbrev pub command_of : List ℕ → Command
command_of word =
    cond (bytes_eq word (codes ".model")) Model
    (cond (bytes_eq word (codes ".inputs")) Inputs
    (cond (bytes_eq word (codes ".outputs")) Outputs
    (cond (bytes_eq word (codes ".names")) Names
    (cond (bytes_eq word (codes ".latch")) Latch
    (cond (bytes_eq word (codes ".clock")) Clock
    (cond (bytes_eq word (codes ".end")) End
    (cond (begins_with_dot word) Unknown Row)))))))
