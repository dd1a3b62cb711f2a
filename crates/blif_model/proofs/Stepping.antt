-- One line more of a text.
use Rattle.std.proofs.Common.{◌≡◌, ℕ, List, [], ◌∷◌, map, Option, None, Some, refl, ◌∙◌}
use Rattle.psl_base.specs.Tokens.{PlacedToken}
use Rattle.blif_model.specs.declared.command.Command.{Command}
use Rattle.blif_model.specs.declared.command.Command.TheVariants as commands
use Rattle.blif_model.specs.Known.{Known, known_by_command}
use Rattle.blif_model.specs.Models.{Mention, driven, used}
use Rattle.blif_model.specs.Names.{Named, place_of, with_mention, with_mentions, with_place}
use Rattle.blif_model.specs.Shapes.{LatchParts, latch_of}
use Rattle.blif_model.specs.Standing.{last_of, mentions_of_names}

-- the text stays
place-whole : (named : Named) (mention : Mention) (place : Option ℕ) → (with_place named mention place).whole ≡ named.whole
place-whole named mention None = refl
place-whole named mention (Some number) = refl

pub mentions-whole : (named : Named) (mentions : List Mention) → (with_mentions named mentions).whole ≡ named.whole
mentions-whole named [] = refl
mentions-whole named (mention ∷ mentions) =
    mentions-whole (with_mention named mention) mentions ∙ place-whole named mention (place_of named.names mention.word.text)

names-whole : (known : Known) (words : List PlacedToken) (last : Option PlacedToken) → last_of words ≡ last → (known_by_command known commands.Names words).named.whole ≡ known.named.whole
names-whole known words None is = rw is refl
names-whole known words (Some output) is = rw is (mentions-whole known.named (mentions_of_names words))

latch-whole : (known : Known) (words : List PlacedToken) (latch : Option LatchParts) → latch_of words ≡ latch → (known_by_command known commands.Latch words).named.whole ≡ known.named.whole
latch-whole known words None is = rw is refl
latch-whole known words (Some latch) is = rw is (mentions-whole known.named (used latch.input ∷ driven latch.output ∷ []))

pub command-whole : (known : Known) (command : Command) (words : List PlacedToken) → (known_by_command known command words).named.whole ≡ known.named.whole
command-whole known commands.Row words = refl
command-whole known commands.Inputs words = mentions-whole known.named (map driven words)
command-whole known commands.Outputs words = mentions-whole known.named (map used words)
command-whole known commands.Names words = names-whole known words (last_of words) refl
command-whole known commands.Latch words = latch-whole known words (latch_of words) refl
command-whole known commands.Model words = refl
command-whole known commands.Clock words = refl
command-whole known commands.End words = refl
command-whole known commands.Unknown words = refl
