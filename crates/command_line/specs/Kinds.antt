-- The commands: their names, and what `clap` is told of each.
use Rattle.std.specs.Prelude.{ℕ, List, [], ◌∷◌, codes}
use Rattle.clap.specs.Walk.{Rule}
use Rattle.clap.specs.Simple.{App}
use Rattle.command_line.specs.Clap.{app, flag, option, optional, required}
use Rattle.command_line.specs.declared.Unknown.{Unknown}
use Rattle.command_line.specs.declared.Unknown.TheVariants.{Zero, One, Refuse}
use Rattle.command_line.specs.declared.kinds.Kind.{Kind}
use Rattle.command_line.specs.declared.kinds.Kind.TheVariants.{Wave, Gen, Show, Prove, Check, Replay}

-- the first word of a command
abbrev pub name_of : Kind → List ℕ
name_of Wave = codes "wave"
name_of Gen = codes "gen"
name_of Show = codes "show"
name_of Prove = codes "prove"
name_of Check = codes "check"
name_of Replay = codes "replay"

-- the word of the option that says how unknown bits read
abbrev pub word_of : Unknown → List ℕ
word_of Zero = codes "zero"
word_of One = codes "one"
word_of Refuse = codes "refuse"

-- the words, flags and options that follow it
abbrev pub rules_of : Kind → List Rule
rules_of Wave = required (codes "unit") ∷ required (codes "recording") ∷ option (codes "unknown") (codes "zero")
    ∷ flag (codes "where") ∷ []
rules_of Gen = required (codes "seed") ∷ required (codes "samples") ∷ []
rules_of Show = required (codes "unit") ∷ required (codes "names") ∷ flag (codes "netlist") ∷ []
rules_of Prove = required (codes "unit") ∷ required (codes "netlist") ∷ option (codes "depth") (codes "20")
    ∷ option (codes "visits") (codes "4") ∷ option (codes "steps") (codes "1000000")
    ∷ optional (codes "cert") ∷ optional (codes "vcd") ∷ option (codes "loops") (codes "1") ∷ flag (codes "reach")
    ∷ flag (codes "covers") ∷ flag (codes "buses")
    ∷ flag (codes "progress") ∷ []
rules_of Check = required (codes "unit") ∷ required (codes "netlist") ∷ required (codes "number")
    ∷ required (codes "certificate") ∷ []
rules_of Replay = required (codes "unit") ∷ required (codes "netlist") ∷ required (codes "recording") ∷ []

-- the command as `clap` is told of it
abbrev pub app_of : Kind → App
app_of kind = app (name_of kind) (rules_of kind)
