-- The files that a run writes: the certificates of what it proved, and the recordings of runs that violate assertions or
-- meet covers.
use Rattle.std.specs.Prelude.{◌≡◌, ◌⊎◌, ℕ, false, List, [], ◌∷◌, ◌++◌, map, Option, None, Some, Result, Ok, Err, codes, decimal}
use Rattle.std.specs.List.{flat_map}
use Rattle.cert_theory.specs.Printed.{cert_text, inductive_text}
use Rattle.cert_theory.specs.declared.header.Version.TheVariants.{Two}
use Rattle.command_line.specs.Commands.{Meaning}
use Rattle.command_line.specs.Evidences.{Wanted}
use Rattle.command_line.specs.Commands.Meaning.{wave, show, show_netlist, gen, prove, check, replay}
use Rattle.findings.specs.declared.entry.FindingEntry.{FindingEntry}
use Rattle.findings.specs.declared.recording.Recorded.{Recorded}
use Rattle.findings.specs.declared.recording.Recorded.TheVariants.{Judged, TooLong}
use Rattle.prover.specs.declared.finding.Finding.{Finding}
use Rattle.prover.specs.declared.finding.Finding.TheVariants as findings
use Rattle.psl_base.specs.Shelf.{ShelfState, OnlyReads}
use Rattle.psl_base.specs.Sink.{SinkState, AddsPart}
use Rattle.psl_base.specs.Saves.{NewFile, SavesAll, SavesPart, file_of}
use Rattle.commands.specs.Commands.{IsCommand}
use Rattle.commands.specs.Faults.{of_none}
use Rattle.commands.specs.declared.finish.Planned.{Planned}
use Rattle.commands.specs.declared.outcome.Fault.{Fault}
use Rattle.commands.specs.declared.outcome.Outcome.{Outcome}
use Rattle.commands.specs.declared.outcome.Outcome.TheVariants.{Nothing, Wave, Findings, Checked, Shown, Made, Replayed}
use Rattle.commands.specs.declared.reason.Reason.TheVariants.{WriteFault}

-- the name of a file of evidence: `PREFIX.NUMBER.cert`, or with another ending
abbrev pub file_name : List ℕ → ℕ → List ℕ → List ℕ
file_name prefix number ending = prefix ++ codes "." ++ decimal number ++ ending

-- the file of a certificate with this text, where there is a prefix
abbrev pub certificate_files : Option (List ℕ) → ℕ → List ℕ → List NewFile
certificate_files None number text = []
certificate_files (Some prefix) number text = record { name = file_name prefix number (codes ".cert"); content = text } ∷ []

-- the file of a recording, where there is a prefix
abbrev pub recording_files : Option (List ℕ) → ℕ → List ℕ → List NewFile
recording_files None number text = []
recording_files (Some prefix) number text = record { name = file_name prefix number (codes ".vcd"); content = text } ∷ []

abbrev pub recorded_files : Option (List ℕ) → ℕ → Option Recorded → List NewFile
recorded_files prefix number None = []
recorded_files prefix number (Some TooLong) = []
recorded_files prefix number (Some (Judged name samples verdict text)) = recording_files prefix number text

-- the file of a finding: a certificate of a window with the lines of the second version, one of clauses with those of the
-- third, or a recording
abbrev pub files_of_finding : Wanted → ℕ → Finding → Option Recorded → List NewFile
files_of_finding wanted number (findings.Proved certificate) recorded = certificate_files wanted.cert number (cert_text Two certificate)
files_of_finding wanted number (findings.ProvedReach certificate) recorded = certificate_files wanted.cert number (inductive_text certificate)
files_of_finding wanted number (findings.Violated run) recorded = recorded_files wanted.vcd number recorded
files_of_finding wanted number (findings.Held path end) recorded = recorded_files wanted.vcd number recorded
files_of_finding wanted number (findings.Depth paths) recorded = []
files_of_finding wanted number (findings.DepthReach paths ends) recorded = []
files_of_finding wanted number (findings.Steps query log) recorded = []
files_of_finding wanted number (findings.LogFull query log) recorded = []
files_of_finding wanted number (findings.Large query) recorded = []

abbrev pub files_of_entry : Wanted → FindingEntry → List NewFile
files_of_entry wanted entry = files_of_finding wanted entry.number entry.finding entry.recorded

-- the files of an outcome's evidence, in the order of the directives
abbrev pub files_of_outcome : Wanted → Outcome → List NewFile
files_of_outcome wanted Nothing = []
files_of_outcome wanted (Wave verdicts settled) = []
files_of_outcome wanted (Findings entries columns depth visits) = flat_map (files_of_entry wanted) entries
files_of_outcome wanted (Checked number checked) = []
files_of_outcome wanted (Shown lines) = []
files_of_outcome wanted (Made seed samples bytes verdicts) = []
files_of_outcome wanted (Replayed answer samples verdicts) = []

-- the files that a command is to leave
abbrev no_files : Wanted
no_files = record { cert = None; vcd = None; loops = 1; buses = false }

abbrev pub wanted_of : Meaning → Wanted
wanted_of (wave unit recording unknown points) = no_files
wanted_of (show unit names) = no_files
wanted_of (show_netlist unit netlist) = no_files
wanted_of (prove unit netlist limits evidence) = evidence
wanted_of (check unit netlist number certificate) = no_files
wanted_of (gen seed samples) = no_files
wanted_of (replay unit netlist recording) = no_files

-- these are the files that a run with this outcome is to write, by its words
pub data AreToWrite (words : List (List ℕ)) (outcome : Outcome) (files : List NewFile) : Type 0 where
  of_command : (meaning : Meaning) → IsCommand words meaning → files ≡ files_of_outcome (wanted_of meaning) outcome → AreToWrite words outcome files
  of_nothing : outcome ≡ Nothing → files ≡ [] → AreToWrite words outcome files

-- some of them could not be written
pub record FailsToWrite (words : List (List ℕ)) (outcome : Outcome) (old new : ShelfState) : Type 0 where
  pub files : List NewFile
  pub are : AreToWrite words outcome files
  pub part : SavesPart files old new

-- a file of what was planned could not be written
abbrev pub FailsPlanned : Result Planned Fault → ShelfState → ShelfState → Type 0
FailsPlanned (Ok made) old new = SavesPart (map file_of made.saves) old new
FailsPlanned (Err fault) old new = ⊥

-- why files and a text behind them are not written whole
pub data WritingFails (files : List NewFile) (text : List ℕ) (old new : ShelfState) (out out' : SinkState) : Type 0 where
  unsaved : SavesPart files old new → out' ≡ out → WritingFails files text old new out out'
  unprinted : SavesAll files old new → AddsPart text out out' → WritingFails files text old new out out'

-- What writing files did, in a run with this fault: all have their contents whole; or writing failed, the first ones have
-- theirs whole, the next may have the first bytes of its own, and the rest is as before. Nothing else changed.
pub record Writes (files : List NewFile) (fault : Option Fault) (old new : ShelfState) : Type 0 where
  pub saved : SavesAll files old new ⊎ ((fault ≡ Some (of_none WriteFault)) × SavesPart files old new)
  pub read_faults : new.read_faults ≡ old.read_faults

-- what the writing alone did: nothing, where no file is to be written
abbrev pub HasSaved : List NewFile → Option Fault → ShelfState → ShelfState → Type 0
HasSaved [] fault old new = new ≡ old
HasSaved (file ∷ files) fault old new = Writes (file ∷ files) fault old new

-- what a run did that reads files before; where no file is to be written, every content is as before
abbrev pub IsSaved : List NewFile → Option Fault → ShelfState → ShelfState → Type 0
IsSaved [] fault old new = OnlyReads old new
IsSaved (file ∷ files) fault old new = Writes (file ∷ files) fault old new

-- what a run of these words did to the files
pub record IsSavedBy (words : List (List ℕ)) (outcome : Outcome) (fault : Option Fault) (old new : ShelfState) : Type 0 where
  pub files : List NewFile
  pub are : AreToWrite words outcome files
  pub saved : IsSaved files fault old new
