-- How a run ends: its status, what it prints, and why a fault came.
use Rattle.std.specs.Prelude.{◌≡◌, ◌≢◌, ◌⊎◌, Bool, true, false, ◌||◌, ℕ, List, Option, None, Some, if◌then◌else◌}
use Rattle.std.specs.List.{list_all, list_any}
use Rattle.cert_theory.specs.declared.answer.CertAnswer.{CertAnswer}
use Rattle.cert_theory.specs.declared.answer.CertAnswer.TheVariants.{Passed, Refused}
use Rattle.findings.specs.declared.entry.FindingEntry.{FindingEntry}
use Rattle.prover.specs.Findings.{is_proved, is_violated}
use Rattle.prover.specs.declared.finding.Finding.{Finding}
use Rattle.psl_base.specs.Shelf.{Contents, ShelfState}
use Rattle.psl_base.specs.Sink.{SinkState, AddsAll, AddsPart}
use Rattle.psl_tree.specs.declared.directive.Kind.{Kind}
use Rattle.psl_tree.specs.declared.directive.Kind.TheVariants.{Assert, Assume, Cover}
use Rattle.commands.specs.Faults.{of_none}
use Rattle.commands.specs.Rows.{Cause, OfWords, OfReading, OfWriting, OfText, OfMemory, cause_of, reason_status}
use Rattle.commands.specs.Stages.{OfTold, HasCause}
use Rattle.commands.specs.Text.{text_of, line_of}
use Rattle.commands.specs.declared.outcome.Fault.{Fault}
use Rattle.commands.specs.declared.outcome.Outcome.{Outcome}
use Rattle.commands.specs.declared.outcome.Outcome.TheVariants.{Nothing, Wave, Findings, Checked, Shown, Made, Replayed}
use Rattle.commands.specs.declared.reason.Reason.TheVariants.{WriteFault, NoMemory}
use Rattle.replay.specs.declared.answer.Replay.{Replay}
use Rattle.replay.specs.declared.answer.Replay.TheVariants as replays
use Rattle.wave_judge.specs.declared.verdict.Verdict.{Verdict}

-- a cover may be neutral no
abbrev pub may_be_no : Kind → Bool
may_be_no Assert = false
may_be_no Assume = false
may_be_no Cover = true

-- the neutral verdict is yes, or it need not be
abbrev pub passes : Verdict → Bool
passes verdict = verdict.neutral || may_be_no verdict.kind

-- 0 where each assert and assume is neutral yes, else 1
abbrev pub verdicts_status : List Verdict → ℕ
verdicts_status verdicts = if list_all passes verdicts then 0 else 1

-- an assertion that is violated and a cover that no run meets fail; an assertion that is proved and a cover that some run
-- meets do as they should
abbrev pub fails_as : Kind → Finding → Bool
fails_as Assert finding = is_violated finding
fails_as Assume finding = is_violated finding
fails_as Cover finding = is_proved finding

abbrev pub succeeds_as : Kind → Finding → Bool
succeeds_as Assert finding = is_proved finding
succeeds_as Assume finding = is_proved finding
succeeds_as Cover finding = is_violated finding

-- 1 where some directive fails, else 0 where each does as it should, and else 6
abbrev pub findings_status : List FindingEntry → ℕ
findings_status entries =
    if list_any (λ entry. fails_as entry.kind entry.finding) entries then 1
    else if list_all (λ entry. succeeds_as entry.kind entry.finding) entries then 0
    else 6

-- 0 where the certificate is passed, else 1
abbrev pub answer_status : CertAnswer → ℕ
answer_status Passed = 0
answer_status (Refused reason line) = 1

-- 0 where the recording is a path and each assert and assume is neutral yes, else 1
abbrev pub replay_status : Replay → List Verdict → ℕ
replay_status replays.Path verdicts = verdicts_status verdicts
replay_status (replays.Leaves sample signal name) verdicts = 1

abbrev pub outcome_status : Outcome → ℕ
outcome_status Nothing = 0
outcome_status (Wave verdicts settled) = verdicts_status verdicts
outcome_status (Findings entries columns depth visits) = findings_status entries
outcome_status (Checked number checked) = answer_status checked.answer
outcome_status (Shown lines) = 0
outcome_status (Replayed answer samples verdicts) = replay_status answer verdicts
outcome_status (Made seed samples bytes verdicts) = verdicts_status verdicts

-- the status of a run, from what it found out or from its fault
abbrev pub status_of : Outcome → Option Fault → ℕ
status_of outcome None = outcome_status outcome
status_of _ (Some fault) = reason_status fault.reason

-- a fault has its cause; where there is none, nothing is refused
abbrev pub Explained : Type 0 → ShelfState → ShelfState → (Contents → Option Fault → Type 0) → Option Fault → Type 0
Explained _ old _ Refusal None = OfTold old (λ files. Refusal files None)
Explained write_cause old new Refusal (Some fault) =
    HasCause (cause_of fault.reason) write_cause old new (λ files. Refusal files (Some fault))

-- the fault is want of memory
abbrev pub IsOutOfMemory : Option Fault → Type 0
IsOutOfMemory None = ⊥
IsOutOfMemory (Some fault) = fault.reason ≡ NoMemory

-- the fault is none of writing
abbrev pub IsUnwritten : Fault → Type 0
IsUnwritten fault = fault.reason ≢ WriteFault

-- a line was added whole, or only its first bytes were before a fault
abbrev pub AddsSome : List ℕ → SinkState → SinkState → Type 0
AddsSome line old new = AddsAll line old new ⊎ AddsPart line old new

-- a fault that is to be told: the one there is, or want of memory where its line cannot be made
abbrev pub IsToTell : Option Fault → Fault → Type 0
IsToTell had fault = (had ≡ Some fault) ⊎ (fault ≡ of_none NoMemory)

-- the first bytes of an outcome's text were added, or none since a file before could not be written
abbrev pub AddsText : Type 0 → Outcome → SinkState → SinkState → Type 0
AddsText Unwritten outcome out out' = AddsPart (text_of outcome) out out' ⊎ (Unwritten × (out' ≡ out))

-- What is added to the two outputs by the end of a run. Without a fault the outcome's text, whole, and nothing else. With
-- one the fault's line, whole, on the second output and nothing on the first; but where writing failed, the first bytes
-- of the outcome's text and of the fault's line, or the first bytes of the line of a fault that was to be told alone.
-- `Unwritten` says that a file could not be written.
abbrev pub PrintsFault : Cause → Type 0 → (Fault → Type 0) → Outcome → Fault → SinkState → SinkState → SinkState → SinkState → Type 0
PrintsFault OfWriting Unwritten WasToBeTold outcome fault out out' err err' =
    (AddsText Unwritten outcome out out' × AddsSome (line_of fault) err err')
    ⊎ ((out' ≡ out) × ((other : Fault) × WasToBeTold other × AddsPart (line_of other) err err'))
PrintsFault OfWords _ _ _ fault out out' err err' = (out' ≡ out) × AddsAll (line_of fault) err err'
PrintsFault OfReading _ _ _ fault out out' err err' = (out' ≡ out) × AddsAll (line_of fault) err err'
PrintsFault OfText _ _ _ fault out out' err err' = (out' ≡ out) × AddsAll (line_of fault) err err'
PrintsFault OfMemory _ _ _ fault out out' err err' = (out' ≡ out) × AddsAll (line_of fault) err err'

abbrev pub Prints : Type 0 → (Fault → Type 0) → Outcome → Option Fault → SinkState → SinkState → SinkState → SinkState → Type 0
Prints Unwritten WasToBeTold outcome None out out' err err' = AddsAll (text_of outcome) out out' × (err' ≡ err)
Prints Unwritten WasToBeTold outcome (Some fault) out out' err err' =
    PrintsFault (cause_of fault.reason) Unwritten WasToBeTold outcome fault out out' err err'

-- the two outputs after a run that had found this out: its text was printed, or writing failed
pub record EndsWith (found : Outcome) (outcome : Outcome) (fault : Option Fault) (written : Fault) (write_cause : Type 0) : Type 0 where
  pub outcome_kept : outcome ≡ found
  pub fault_is : (fault ≡ None) ⊎ ((fault ≡ Some written) × write_cause)

-- the same after a run that had this fault: it was told, or its line could not be made, or not be written
pub record EndsFaulted (had : Fault) (outcome : Outcome) (fault : Option Fault) (unmade written : Fault) (write_cause : Type 0) : Type 0 where
  pub no_outcome : outcome ≡ Nothing
  pub fault_is : (fault ≡ Some had) ⊎ ((fault ≡ Some unmade) ⊎ ((fault ≡ Some written) × write_cause))

-- the status of a run that a file, an output or memory failed
abbrev pub IsDeviceStatus : ℕ → Type 0
IsDeviceStatus status = (status ≡ 3) ⊎ ((status ≡ 4) ⊎ (status ≡ 8))
