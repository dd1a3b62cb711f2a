-- The text stays, whatever its lines say.
use Rattle.std.proofs.Common.{◌≡◌, List, [], ◌∷◌, Option, None, Some, refl}
use Rattle.psl_base.specs.Tokens.{PlacedToken}
use Rattle.blif_model.specs.declared.file.FileCommand.{FileCommand}
use Rattle.blif_model.specs.declared.file.FileCommand.TheVariants.{Begin, Place, Own}
use Rattle.blif_model.specs.FileKnown.{FileKnown, file_known_after, file_known_by, known_begun_as}
use Rattle.blif_model.specs.Files.{file_command_of}
use Rattle.blif_model.specs.Standing.{words_of}
use Rattle.blif_model.proofs.Stepping.{command-whole}

begun-whole : (file : FileKnown) (words : List PlacedToken) (title : Option PlacedToken)
    → (known_begun_as file words title).own.named.whole ≡ file.own.named.whole
begun-whole file words None = refl
begun-whole file words (Some title) = refl

by-whole : (file : FileKnown) (command : FileCommand) (head : PlacedToken) (words : List PlacedToken)
    → (file_known_by file command head words).own.named.whole ≡ file.own.named.whole
by-whole file Begin head words = begun-whole file words file.title
by-whole file Place head words = refl
by-whole file (Own command) head words = command-whole file.own command (words_of command head words)

pub file-whole : (file : FileKnown) (words : List PlacedToken) → (file_known_after file words).own.named.whole ≡ file.own.named.whole
file-whole file [] = refl
file-whole file (head ∷ words) = by-whole file (file_command_of head.text) head words
