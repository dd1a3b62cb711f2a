-- How a run of the program `sat` ends: its status, what it prints, and why a fault came.
use Rattle.std.specs.Prelude.{◌≡◌, ◌⊎◌, ℕ, List, Option, Some, None}
use Rattle.psl_base.specs.Saves.{NewFile, SavesAll, SavesPart}
use Rattle.psl_base.specs.Shelf.{ShelfState}
use Rattle.psl_base.specs.Sink.{SinkState, AddsAll, AddsPart}
use Rattle.cdcl.specs.declared.answer.Answer.{Answer}
use Rattle.cdcl.specs.declared.answer.Answer.TheVariants as answers
use Rattle.sat_command.specs.Refusals.{IsRefusal}
use Rattle.sat_command.specs.Requests.{Asked}
use Rattle.sat_command.specs.Rows.{row_of}
use Rattle.sat_command.specs.Saved.{files_of}
use Rattle.sat_command.specs.Text.{answer_text, line_of}
use Rattle.sat_command.specs.declared.report.Fault.{Fault}
use Rattle.sat_command.specs.declared.report.Fault.TheVariants as faults

-- 10 for a model, 20 for a refutation, and 0 where the formula is undecided
abbrev pub answer_status : Answer → ℕ
answer_status (answers.Model values) = 10
answer_status (answers.Refuted log) = 20
answer_status (answers.Spent log) = 0
answer_status (answers.LogFull log) = 0

abbrev pub found_status : Option Answer → ℕ
found_status None = 0
found_status (Some answer) = answer_status answer

-- the status of a run, from its fault or from what it found out
abbrev pub status_of : Option Answer → Option Fault → ℕ
status_of answer None = found_status answer
status_of answer (Some fault) = (row_of fault).status

-- the fault is of writing
abbrev pub IsOfWriting : Fault → Type 0
IsOfWriting fault = (fault ≡ faults.CannotWrite) ⊎ (fault ≡ faults.CannotPrint)

-- Why a run ends with a fault: the log of its answer was asked for and could not be written, an output could not
-- (`Unprinted`), or there is no answer.
abbrev pub IsCause : Option Asked → Option Answer → ShelfState → ShelfState → Type 0 → Fault → Type 0
IsCause asked answer old new Unprinted faults.Usage = IsRefusal asked old new faults.Usage
IsCause asked answer old new Unprinted faults.CannotRead = IsRefusal asked old new faults.CannotRead
IsCause asked answer old new Unprinted faults.TooLong = IsRefusal asked old new faults.TooLong
IsCause asked answer old new Unprinted (faults.Format fault) = IsRefusal asked old new (faults.Format fault)
IsCause asked answer old new Unprinted faults.CannotWrite = SavesPart (files_of asked answer) old new
IsCause asked answer old new Unprinted faults.CannotPrint = Unprinted
IsCause asked answer old new Unprinted faults.NoMemory = IsRefusal asked old new faults.NoMemory

-- a line was added whole, or only its first bytes were before a fault
abbrev pub AddsSome : List ℕ → SinkState → SinkState → Type 0
AddsSome line old new = AddsAll line old new ⊎ AddsPart line old new

-- Where an output could not be written: the first bytes of the answer's text were added, and of the line that says so;
-- or there is no answer, and the first bytes were added of the line of a fault that had to be told, of which `HadToTell`
-- says that it is one.
abbrev pub PrintsPart : Option Asked → (Fault → Type 0) → Option Answer → SinkState → SinkState → SinkState → SinkState → Type 0
PrintsPart asked HadToTell None out out' err err' =
    (out' ≡ out) × ((other : Fault) × HadToTell other × AddsPart (line_of asked other) err err')
PrintsPart asked HadToTell (Some answer) out out' err err' =
    AddsPart (answer_text answer) out out' × AddsSome (line_of asked faults.CannotPrint) err err'

-- What is added to the two outputs of a run with a fault: its line, whole, on the second and nothing on the first; but where
-- the log could not be written, the line or its first bytes.
abbrev pub PrintsFault : Option Asked → (Fault → Type 0) → Option Answer → Fault → SinkState → SinkState → SinkState → SinkState → Type 0
PrintsFault asked HadToTell answer faults.CannotWrite out out' err err' = (out' ≡ out) × AddsSome (line_of asked faults.CannotWrite) err err'
PrintsFault asked HadToTell answer faults.CannotPrint out out' err err' = PrintsPart asked HadToTell answer out out' err err'
PrintsFault asked HadToTell answer faults.Usage out out' err err' = (out' ≡ out) × AddsAll (line_of asked faults.Usage) err err'
PrintsFault asked HadToTell answer faults.CannotRead out out' err err' = (out' ≡ out) × AddsAll (line_of asked faults.CannotRead) err err'
PrintsFault asked HadToTell answer faults.TooLong out out' err err' = (out' ≡ out) × AddsAll (line_of asked faults.TooLong) err err'
PrintsFault asked HadToTell answer (faults.Format fault) out out' err err' = (out' ≡ out) × AddsAll (line_of asked (faults.Format fault)) err err'
PrintsFault asked HadToTell answer faults.NoMemory out out' err err' = (out' ≡ out) × AddsAll (line_of asked faults.NoMemory) err err'

-- the same of a run that may have no fault: then the text of its answer, whole, on the first and nothing on the second
abbrev pub PrintsAnswer : Option Answer → SinkState → SinkState → SinkState → SinkState → Type 0
PrintsAnswer None out out' err err' = ⊥
PrintsAnswer (Some answer) out out' err err' = AddsAll (answer_text answer) out out' × (err' ≡ err)

abbrev pub Prints : Option Asked → (Fault → Type 0) → Option Answer → Option Fault → SinkState → SinkState → SinkState → SinkState → Type 0
Prints asked HadToTell answer None out out' err err' = PrintsAnswer answer out out' err err'
Prints asked HadToTell answer (Some fault) out out' err err' = PrintsFault asked HadToTell answer fault out out' err err'

-- a fault that is to be told: the one there is, or want of memory where its line cannot be made
abbrev pub IsToTell : Fault → Fault → Type 0
IsToTell had fault = (fault ≡ had) ⊎ (fault ≡ faults.NoMemory)

-- How a run with an answer ended, by the files that were to be written: they have their contents and the answer was
-- printed; or one of the two failed.
pub data EndsWith (files : List NewFile) (old new : ShelfState) (Unprinted : Type 0) (fault : Option Fault) : Type 0 where
  whole : fault ≡ None → SavesAll files old new → EndsWith files old new Unprinted fault
  unprinted : fault ≡ Some faults.CannotPrint → SavesAll files old new → Unprinted → EndsWith files old new Unprinted fault
  unsaved : fault ≡ Some faults.CannotWrite → SavesPart files old new → EndsWith files old new Unprinted fault

-- How a run without one ended: its fault was told, or its line could not be made, or not be printed.
pub data EndsFaulted (had : Fault) (Unprinted : Type 0) (fault : Option Fault) : Type 0 where
  told : fault ≡ Some had → EndsFaulted had Unprinted fault
  unmade : fault ≡ Some faults.NoMemory → EndsFaulted had Unprinted fault
  untold : fault ≡ Some faults.CannotPrint → Unprinted → EndsFaulted had Unprinted fault

-- the status of a run that a file, an output or memory failed
abbrev pub IsDeviceStatus : ℕ → Type 0
IsDeviceStatus status = (status ≡ 3) ⊎ ((status ≡ 4) ⊎ (status ≡ 8))
