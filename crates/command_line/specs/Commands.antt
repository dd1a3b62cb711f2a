-- The commands, and what the words after the program's name say.
use Rattle.std.specs.Prelude.{◌≡◌, ◌≢◌, ℕ, Bool, true, false, List, Option, Some, codes, slice_get}
use Rattle.command_line.specs.Clap.{Takes, given, is_true}
use Rattle.command_line.specs.Evidences.{IsEvidence, Wanted, evidence_of}
use Rattle.command_line.specs.Kinds.{app_of, name_of, word_of}
use Rattle.command_line.specs.Numbers.{IsGiven}
use Rattle.command_line.specs.declared.Command.{Command}
use Rattle.command_line.specs.declared.Command.TheVariants.{Wave, Gen, Show, ShowNetlist, Prove, Check, Replay}
use Rattle.command_line.specs.declared.Limits.{Limits}
use Rattle.command_line.specs.declared.Unknown.{Unknown}
use Rattle.command_line.specs.declared.commands.TheConstants.{MOST_SEED, MOST_DEPTH, MOST_VISITS, MOST_STEPS}
use Rattle.command_line.specs.declared.commands.TheConstants.{MOST_NUMBER}
use Rattle.command_line.specs.declared.kinds.Kind.{Kind}
use Rattle.command_line.specs.declared.kinds.Kind.TheVariants as kind

-- which command, with which values
pub data Meaning : Type 0 where
  wave : List ℕ → List ℕ → Unknown → Bool → Meaning
  gen : ℕ → ℕ → Meaning
  show : List ℕ → List ℕ → Meaning
  show_netlist : List ℕ → List ℕ → Meaning
  prove : List ℕ → List ℕ → Limits → Wanted → Meaning
  check : List ℕ → List ℕ → ℕ → List ℕ → Meaning
  replay : List ℕ → List ℕ → List ℕ → Meaning

abbrev pub kind_of : Meaning → Kind
kind_of (wave unit recording unknown points) = kind.Wave
kind_of (gen seed samples) = kind.Gen
kind_of (show unit names) = kind.Show
kind_of (show_netlist unit netlist) = kind.Show
kind_of (prove unit netlist limits evidence) = kind.Prove
kind_of (check unit netlist number certificate) = kind.Check
kind_of (replay unit netlist recording) = kind.Replay

-- the largest seed
abbrev pub most_seed : ℕ
most_seed = MOST_SEED

-- what is given for each name of a word, a flag or an option
abbrev pub Values : Type 0
Values = List ℕ → Option (List ℕ)

-- the option of `wave` says that unknown bits read so
abbrev pub IsUnknown : Option (List ℕ) → Unknown → Type 0
IsUnknown value unknown = value ≡ Some (word_of unknown)

-- The options of `prove` say these limits: a depth from 1 to 1,000, at most 16 visits, from 1 to 10,000,000 steps, and
-- whether `--reach`, `--covers` and `--progress` are given.
pub record AreLimits (values : Values) (limits : Limits) : Type 0 where
  pub depth : IsGiven 1 MOST_DEPTH (values (codes "depth")) limits.depth
  pub visits : IsGiven 0 MOST_VISITS (values (codes "visits")) limits.visits
  pub steps : IsGiven 1 MOST_STEPS (values (codes "steps")) limits.steps
  pub reach : is_true (values (codes "reach")) ≡ limits.reach
  pub covers : is_true (values (codes "covers")) ≡ limits.covers
  pub progress : is_true (values (codes "progress")) ≡ limits.progress

-- What values say: `wave UNIT RECORDING` with how unknown bits read and whether `--where` is given, `gen SEED SAMPLES`,
-- `show UNIT NAMES`, `show UNIT NAMES --netlist`, `prove UNIT NETLIST` with its limits and files, `check UNIT NETLIST NUMBER CERTIFICATE`, or
-- `replay UNIT NETLIST RECORDING`. A seed is at most 2^31 - 1, of samples there is one at least and at most the limit, and
-- the number of a directive is from 1 to 2^32 - 1.
abbrev pub Says : ℕ → Values → Meaning → Type 0
Says most values (wave unit recording unknown points) =
    (values (codes "unit") ≡ Some unit) × (values (codes "recording") ≡ Some recording)
    × IsUnknown (values (codes "unknown")) unknown × (is_true (values (codes "where")) ≡ points)
Says most values (gen seed samples) =
    IsGiven 0 most_seed (values (codes "seed")) seed × IsGiven 1 most (values (codes "samples")) samples
Says most values (show unit names) =
    (values (codes "unit") ≡ Some unit) × (values (codes "names") ≡ Some names)
    × (is_true (values (codes "netlist")) ≡ false)
Says most values (show_netlist unit netlist) =
    (values (codes "unit") ≡ Some unit) × (values (codes "names") ≡ Some netlist)
    × (is_true (values (codes "netlist")) ≡ true)
Says most values (prove unit netlist limits evidence) =
    (values (codes "unit") ≡ Some unit) × (values (codes "netlist") ≡ Some netlist) × AreLimits values limits
    × IsEvidence values evidence
Says most values (check unit netlist number certificate) =
    (values (codes "unit") ≡ Some unit) × (values (codes "netlist") ≡ Some netlist)
    × IsGiven 1 MOST_NUMBER (values (codes "number")) number × (values (codes "certificate") ≡ Some certificate)
Says most values (replay unit netlist recording) =
    (values (codes "unit") ≡ Some unit) × (values (codes "netlist") ≡ Some netlist) × (values (codes "recording") ≡ Some recording)

-- The words are those of such a command: the first is its name, and `clap` takes those after it.
pub record AreTaken (kind : Kind) (words : List (List ℕ)) : Type 0 where
  pub named : slice_get words 0 ≡ Some (name_of kind)
  pub taken : Takes (app_of kind) words

-- what words that are taken give
abbrev pub values_of : Kind → List (List ℕ) → Values
values_of kind words = given (app_of kind) words

-- the words are this command, which is what their values say
abbrev pub IsCommand : ℕ → List (List ℕ) → Meaning → Type 0
IsCommand most words meaning =
    AreTaken (kind_of meaning) words × Says most (values_of (kind_of meaning) words) meaning

-- the words are no command
abbrev pub IsNoCommand : ℕ → List (List ℕ) → Type 0
IsNoCommand most words = (meaning : Meaning) → IsCommand most words meaning → ⊥

-- a value of such a command is to be a number, and is none in its range, or one of some words, and is none of them
abbrev pub AreUnnumbered : ℕ → Values → Kind → Type 0
AreUnnumbered most values kind.Wave = (unknown : Unknown) → IsUnknown (values (codes "unknown")) unknown → ⊥
AreUnnumbered most values kind.Gen = (seed samples : ℕ)
    → IsGiven 0 most_seed (values (codes "seed")) seed → IsGiven 1 most (values (codes "samples")) samples → ⊥
AreUnnumbered most values kind.Show = ⊥
AreUnnumbered most values kind.Prove = (limits : Limits) (evidence : Wanted) → AreLimits values limits → IsEvidence values evidence → ⊥
AreUnnumbered most values kind.Check = (number : ℕ) → IsGiven 1 MOST_NUMBER (values (codes "number")) number → ⊥
AreUnnumbered most values kind.Replay = ⊥

-- Why words are refused: the first is no command's name, `clap` does not take those after it, or one of them is no
-- number in its range or none of the words that may stand there.
pub data IsRefused (most : ℕ) (words : List (List ℕ)) : Type 0 where
  unnamed : ((kind : Kind) → slice_get words 0 ≢ Some (name_of kind)) → IsRefused most words
  untaken : (kind : Kind) → slice_get words 0 ≡ Some (name_of kind) → (Takes (app_of kind) words → ⊥)
      → IsRefused most words
  unnumbered : (kind : Kind) → AreTaken kind words → AreUnnumbered most (values_of kind words) kind
      → IsRefused most words

-- what a command that was read means
abbrev pub meaning_of : Command → Meaning
meaning_of (Wave unit recording unknown points) = wave unit.now recording.now unknown points
meaning_of (Gen seed samples) = gen seed samples
meaning_of (Show unit names) = show unit.now names.now
meaning_of (ShowNetlist unit netlist) = show_netlist unit.now netlist.now
meaning_of (Prove unit netlist limits evidence) = prove unit.now netlist.now limits (evidence_of evidence)
meaning_of (Check unit netlist number certificate) = check unit.now netlist.now number certificate.now
meaning_of (Replay unit netlist recording) = replay unit.now netlist.now recording.now

-- a command of such words was read, and is what their values say
abbrev pub IsRead : ℕ → Values → Kind → Command → Type 0
IsRead most values kind command = (kind_of (meaning_of command) ≡ kind) × Says most values (meaning_of command)
