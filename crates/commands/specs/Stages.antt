-- Stages of a run. A stage says of contents which value it gives or which fault refuses it; the stages of a command
-- come one after the other, and the first refusal ends them.
use Rattle.std.specs.Prelude.{◌≡◌, ◌≢◌, ℕ, ◌<◌, ◌≤◌, ◌⊎◌, List, [], ◌∷◌, length, Option, Result, Ok, Err, None, Some, IfOk, IfErr}
use Rattle.psl_base.specs.Faults.{Rose}
use Rattle.psl_base.specs.Places.{file_limit}
use Rattle.psl_base.specs.Shelf.{Contents, ShelfState, IsLonger, OnlyReads, ReadingFails, SelectsNoOther}
use Rattle.commands.specs.Faults.{fault_in, of_file, of_none}
use Rattle.commands.specs.Rows.{Cause, OfWords, OfReading, OfWriting, OfText, OfMemory, cause_of}
use Rattle.commands.specs.declared.outcome.Fault.{Fault}
use Rattle.commands.specs.declared.reason.Diagnostic.{Diagnostic}
use Rattle.commands.specs.declared.reason.Reason.TheVariants.{ReadFault, TooLong, MissingSignal, NoMemory}

-- What two readings give: what the first one refuses, and else what the second gives from the first one's value.
abbrev pub AndThen : {A B : Type 0} → (Result A Fault → Type 0) → (A → Result B Fault → Type 0) → Result B Fault → Type 0
AndThen {A = A} First Next result =
    ((fault : Fault) × First (Err fault) × (result ≡ Err fault)) ⊎ ((value : A) × First (Ok value) × Next value result)

-- the same of two stages over contents
abbrev pub Then : {A B : Type 0} → (Contents → Result A Fault → Type 0) → (A → Contents → Result B Fault → Type 0) → Contents → Result B Fault → Type 0
Then First Next files result = AndThen (First files) (λ value. Next value files) result

-- A reading that is told by its own values and faults, of which something is said in a file. Want of memory is no
-- fault of a text.
abbrev pub ToldBy : {A F : Type 0} → List ℕ → (F → Diagnostic) → (A → Type 0) → (F → Type 0) → Result A Fault → Type 0
ToldBy name diagnostic IsValue IsFault (Ok value) = IsValue value
ToldBy {F = F} name diagnostic IsValue IsFault (Err fault) =
    (cause : F) × IsFault cause × ((diagnostic cause).reason ≢ NoMemory) × (fault ≡ fault_in name (diagnostic cause))

-- what a stage gives of a file, by its content: it is not there, or too long, or its content is read
abbrev pub OfContent : {A : Type 0} → (List ℕ → Result A Fault → Type 0) → List ℕ → Option (List ℕ) → Result A Fault → Type 0
OfContent Reading name None result = result ≡ Err (of_file ReadFault name)
OfContent Reading name (Some content) result =
    ((file_limit < length content) × (result ≡ Err (of_file TooLong name))) ⊎ ((length content ≤ file_limit) × Reading content result)

abbrev pub OfFile : {A : Type 0} → (List ℕ → Result A Fault → Type 0) → List ℕ → Contents → Result A Fault → Type 0
OfFile Reading name files result = OfContent Reading name (files name) result

-- a fact of the contents that are told; nothing where nothing is told
abbrev pub OfTold : ShelfState → (Contents → Type 0) → Type 0
OfTold shelf Fact = (files : Contents) → shelf.told ≡ Some files → Fact files

-- Why a fault of this cause came, where `Refusal` says of contents that it is the refusal. Want of memory needs no
-- cause. A fault of writing has the cause that is handed in. A file that cannot be read: the reading count rose, or it
-- is told that this is the refusal. Every other fault is the refusal.
abbrev pub HasCause : Cause → Type 0 → ShelfState → ShelfState → (Contents → Type 0) → Type 0
HasCause OfWords _ _ _ Refusal = (files : Contents) → Refusal files
HasCause OfReading _ old new Refusal = Rose old.read_faults new.read_faults ⊎ ((files : Contents) × (old.told ≡ Some files) × Refusal files)
HasCause OfWriting write_cause _ _ _ = write_cause
HasCause OfText _ old _ Refusal = OfTold old Refusal
HasCause OfMemory _ _ _ _ = Unit {0}

-- where it is told, the stage gives this value
abbrev pub Gives : {A : Type 0} → ShelfState → (Contents → Result A Fault → Type 0) → A → Type 0
Gives old Stage value = OfTold old (λ files. Stage files (Ok value))

-- the fault is that of the stage, or of reading, or want of memory
abbrev pub Refuses : {A : Type 0} → ShelfState → ShelfState → (Contents → Result A Fault → Type 0) → Fault → Type 0
Refuses old new Stage fault = HasCause (cause_of fault.reason) ⊥ old new (λ files. Stage files (Err fault))

-- a reason of this cause speaks of a file
abbrev pub SpeaksOfFile : Cause → Type 0
SpeaksOfFile OfReading = Unit {0}
SpeaksOfFile OfText = Unit {0}
SpeaksOfFile OfWords = ⊥
SpeaksOfFile OfWriting = ⊥
SpeaksOfFile OfMemory = ⊥

-- the fault is of this file; it names a signal only where one is missing
pub record IsOfFile (name : List ℕ) (fault : Fault) : Type 0 where
  pub reason : SpeaksOfFile (cause_of fault.reason)
  pub file : fault.file ≡ Some name
  pub signal : fault.reason ≢ MissingSignal → fault.signal ≡ None

-- the fault is of one of these files
abbrev pub IsOfFiles : List (List ℕ) → Fault → Type 0
IsOfFiles [] fault = ⊥
IsOfFiles (name ∷ names) fault = IsOfFile name fault ⊎ IsOfFiles names fault

-- the fault is of one of these files, or want of memory
abbrev pub IsOfFilesOrMemory : List (List ℕ) → Fault → Type 0
IsOfFilesOrMemory names fault = (fault ≡ of_none NoMemory) ⊎ IsOfFiles names fault

-- why a file is not loaded: want of memory, a fault of reading, its length
pub data LoadFails (name : List ℕ) (old new : ShelfState) (fault : Fault) : Type 0 where
  for_memory : fault ≡ of_none NoMemory → LoadFails name old new fault
  unread : fault ≡ of_file ReadFault name → ReadingFails name old new → SelectsNoOther name new → LoadFails name old new fault
  longer : fault ≡ of_file TooLong name → IsLonger file_limit old name → LoadFails name old new fault

-- a fault of reading is of a whole file, and no other file is selected after it
abbrev pub IsUnread : ShelfState → Fault → Type 0
IsUnread new fault = fault.reason ≡ ReadFault → (fault.place ≡ None) × ((new.selected ≡ None) ⊎ (new.selected ≡ fault.file))

-- a fault of a text in one of these files, of which `Refusal` says that it is the refusal
pub record IsTextFault (names : List (List ℕ)) (Refusal : Type 0) (fault : Fault) : Type 0 where
  pub cause : cause_of fault.reason ≡ OfText
  pub file : IsOfFiles names fault
  pub refusal : Refusal

-- want of memory, or a fault of a text in one of these files
abbrev pub TextFails : List (List ℕ) → (Fault → Type 0) → Fault → Type 0
TextFails names Refusal fault = (fault ≡ of_none NoMemory) ⊎ IsTextFault names (Refusal fault) fault

-- a count of reading that is larger after a stage comes with a fault of reading, or with want of memory for telling it
abbrev pub IsCounted : ShelfState → ShelfState → Fault → Type 0
IsCounted old new fault = (new.read_faults ≡ old.read_faults) ⊎ ((fault.reason ≡ ReadFault) ⊎ (fault.reason ≡ NoMemory))

-- A stage over the files of these names was gone through.
pub record IsStage {A : Type 0} (names : List (List ℕ)) (Stage : Contents → Result A Fault → Type 0)
    (old new : ShelfState) (result : Result A Fault) : Type 0 where
  -- its value, or its refusal, which is of one of the files
  pub gives : IfOk result (λ value. Gives old Stage value)
  pub refuses : IfErr result (λ fault. Refuses old new Stage fault)
  pub named : IfErr result (λ fault. IsOfFilesOrMemory names fault)
  -- what it did to the files: their count of faults rose only with such a fault, and they are as before
  pub unread : IfErr result (λ fault. IsUnread new fault)
  pub quiet : IfOk result (λ _. new.read_faults ≡ old.read_faults)
  pub counted : IfErr result (λ fault. IsCounted old new fault)
  pub kept : OnlyReads old new

-- What was read of the files of these names was gone through: the value, or the refusal, which is of one of them.
pub record IsReading {A : Type 0} (names : List (List ℕ)) (Reading : Result A Fault → Type 0) (result : Result A Fault) : Type 0 where
  pub gives : IfOk result (λ value. Reading (Ok value))
  pub refuses : IfErr result (λ fault. TextFails names (λ fault. Reading (Err fault)) fault)
