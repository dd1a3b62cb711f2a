-- The commands: what the words after the program's name ask for, and what a run of them gives or refuses.
use Rattle.std.specs.Prelude.{◌≡◌, ℕ, ◌⊎◌, List, [], ◌∷◌, Option, Some, Result, Ok, Err, is_some}
use Rattle.command_line.specs.Commands as words_of
use Rattle.command_line.specs.Commands.{Meaning}
use Rattle.command_line.specs.Commands.Meaning.{wave, show, show_netlist, gen, prove, check, replay}
use Rattle.command_line.specs.declared.Limits.{Limits}
use Rattle.psl_base.specs.Shelf.{Contents, ShelfState}
use Rattle.commands.specs.Checks.{CheckStage}
use Rattle.commands.specs.Endings.{Explained}
use Rattle.commands.specs.Faults.{of_none, fault_of}
use Rattle.commands.specs.Generated.{GeneratedStage}
use Rattle.commands.specs.Provings.{ProveStage}
use Rattle.commands.specs.Stages.{Then, IsOfFiles}
use Rattle.commands.specs.Waves.{WaveStage, ShowStage, ShowNetlistStage, unknown_of}
use Rattle.commands.specs.declared.outcome.CheckedCert.{CheckedCert}
use Rattle.commands.specs.declared.outcome.Fault.{Fault}
use Rattle.commands.specs.declared.outcome.Line.{Line}
use Rattle.commands.specs.declared.outcome.Outcome.{Outcome}
use Rattle.commands.specs.declared.outcome.Outcome.TheVariants.{Nothing, Wave, Findings, Checked, Shown, Replayed as OfReplay}
use Rattle.commands.specs.Replays.{ReplayStage}
use Rattle.commands.specs.declared.prove.Found.{Found}
use Rattle.commands.specs.declared.replayed.Replayed.{Replayed}
use Rattle.commands.specs.declared.wave.Judgement.{Judgement}
use Rattle.commands.specs.declared.reason.Reason.TheVariants.{Usage, WriteFault, NoMemory}
use Rattle.vcd_reader.specs.Rules.{sample_limit}

-- The words are this command: `wave UNIT RECORDING` with how unknown bits read and whether it is asked from where on
-- verdicts are settled, `show UNIT NAMES`,
-- `show UNIT NETLIST --netlist`, `prove UNIT NETLIST` with its limits and files, `check UNIT NETLIST NUMBER CERTIFICATE` with a
-- number from 1 to 2^32 - 1, `replay UNIT NETLIST RECORDING`, or `gen SEED SAMPLES` with a seed below 2^31 and a number of samples
-- from 1 to the limit on samples.
abbrev pub IsCommand : List (List ℕ) → Meaning → Type 0
IsCommand words meaning = words_of.IsCommand sample_limit words meaning

-- the words are no command
abbrev pub IsNoCommand : List (List ℕ) → Type 0
IsNoCommand words = words_of.IsNoCommand sample_limit words

-- the files that a command names, in the order in which it reads them
abbrev pub files_of : Meaning → List (List ℕ)
files_of (wave unit recording unknown points) = unit ∷ recording ∷ []
files_of (show unit names) = unit ∷ names ∷ []
files_of (show_netlist unit netlist) = unit ∷ netlist ∷ []
files_of (prove unit netlist limits evidence) = unit ∷ netlist ∷ []
files_of (check unit netlist number certificate) = unit ∷ netlist ∷ certificate ∷ []
files_of (gen seed samples) = []
files_of (replay unit netlist recording) = unit ∷ netlist ∷ recording ∷ []

-- the outcome of `wave`
abbrev pub wave_outcome : Judgement → Outcome
wave_outcome judged = Wave judged.verdicts judged.settled

-- the outcome of `prove`
abbrev pub findings_outcome : Limits → Found → Outcome
findings_outcome limits found = Findings found.findings found.columns limits.depth limits.visits

-- the outcome of `replay`
abbrev pub replayed_outcome : Replayed → Outcome
replayed_outcome found = OfReplay found.replay found.samples found.verdicts

-- what a command gives over contents: an outcome, or the first refusal
abbrev pub MeaningStage : Meaning → Contents → Result Outcome Fault → Type 0
MeaningStage (wave unit recording unknown points) files result =
    Then (WaveStage unit recording (unknown_of unknown) points) (λ judged _ outcome. outcome ≡ Ok (wave_outcome judged)) files result
MeaningStage (show unit names) files result = Then (ShowStage unit names) (λ lines _ outcome. outcome ≡ Ok (Shown lines)) files result
MeaningStage (show_netlist unit netlist) files result =
    Then (ShowNetlistStage unit netlist) (λ lines _ outcome. outcome ≡ Ok (Shown lines)) files result
MeaningStage (prove unit netlist limits evidence) files result =
    Then (ProveStage unit netlist limits evidence) (λ found _ outcome. outcome ≡ Ok (findings_outcome limits found)) files result
MeaningStage (check unit netlist number certificate) files result =
    Then (CheckStage unit netlist number certificate) (λ checked _ outcome. outcome ≡ Ok (Checked number checked)) files result
MeaningStage (replay unit netlist recording) files result =
    Then (ReplayStage unit netlist recording) (λ found _ outcome. outcome ≡ Ok (replayed_outcome found)) files result
MeaningStage (gen seed samples) files result = GeneratedStage seed samples result

-- what is known of a command's outcome whatever the files tell: its kind, that it says of a recording from where on verdicts
-- are settled just where that is asked for, and that of `gen` is exact
abbrev pub MeaningOutcome : Meaning → Outcome → Type 0
MeaningOutcome (wave unit recording unknown points) outcome =
    (judged : Judgement) × (outcome ≡ wave_outcome judged) × (is_some judged.settled ≡ points)
MeaningOutcome (show unit names) outcome = (lines : List Line) × (outcome ≡ Shown lines)
MeaningOutcome (show_netlist unit netlist) outcome = (lines : List Line) × (outcome ≡ Shown lines)
MeaningOutcome (prove unit netlist limits evidence) outcome =
    (found : Found) × (outcome ≡ findings_outcome limits found)
MeaningOutcome (check unit netlist number certificate) outcome =
    (checked : CheckedCert) × (outcome ≡ Checked number checked)
MeaningOutcome (replay unit netlist recording) outcome = (found : Replayed) × (outcome ≡ replayed_outcome found)
MeaningOutcome (gen seed samples) outcome = GeneratedStage seed samples (Ok outcome)

-- what the words give over contents: an outcome, or the first refusal
abbrev pub CommandStage : List (List ℕ) → Contents → Result Outcome Fault → Type 0
CommandStage words files result =
    (IsNoCommand words × (result ≡ Err (of_none Usage)))
    ⊎ ((meaning : Meaning) × IsCommand words meaning × MeaningStage meaning files result)

-- the first refusal of words over contents, or that there is none
abbrev pub FirstRefusal : List (List ℕ) → Contents → Option Fault → Type 0
FirstRefusal words files answer = (result : Result Outcome Fault) × CommandStage words files result × (answer ≡ fault_of result)

-- whatever is told, an outcome is one of the command that the words are, and that of `gen` is exact
abbrev pub IsOfCommand : List (List ℕ) → Outcome → Type 0
IsOfCommand words outcome = (outcome ≡ Nothing) ⊎ ((meaning : Meaning) × IsCommand words meaning × MeaningOutcome meaning outcome)

-- what an outcome says of the words and the contents
abbrev pub IsOutcomeOf : List (List ℕ) → Contents → Outcome → Type 0
IsOutcomeOf words files outcome = (outcome ≡ Nothing) ⊎ CommandStage words files (Ok outcome)

-- The fault is of no file where it is of the words, of writing or of memory; else it is of a file that the words name.
abbrev pub IsNamed : List (List ℕ) → Fault → Type 0
IsNamed words fault =
    (fault ≡ of_none Usage) ⊎ ((fault ≡ of_none WriteFault) ⊎ ((fault ≡ of_none NoMemory)
    ⊎ ((meaning : Meaning) × IsCommand words meaning × IsOfFiles (files_of meaning) fault)))

-- a fault that a run of the words had to tell: it has its cause in the words and the files
abbrev pub HadToTell : List (List ℕ) → ShelfState → ShelfState → Fault → Type 0
HadToTell words old new fault = Explained ⊥ old new (FirstRefusal words) (Some fault)
