-- Why a run of the program `sat` has no answer.
use Rattle.std.specs.Prelude.{◌≡◌, ◌≢◌, ◌⊎◌, ℕ, List, Option, Some, None}
use Rattle.psl_base.specs.Places.{file_limit}
use Rattle.psl_base.specs.Shelf.{ShelfState, IsLonger, ReadingFails, SelectsNoOther}
use Rattle.sat_dimacs.specs.Faults.{IsFirstFault}
use Rattle.sat_dimacs.specs.declared.fault.DimacsFault.{DimacsFault}
use Rattle.sat_dimacs.specs.declared.fault.DimacsFault.TheVariants as dimacs
use Rattle.sat_command.specs.Answering.{OfContent}
use Rattle.sat_command.specs.Requests.{Asked}
use Rattle.sat_command.specs.declared.report.Fault.{Fault}
use Rattle.sat_command.specs.declared.report.Fault.TheVariants as faults

-- the first fault of a text. Want of memory is none
pub record IsFaultOf (text : List ℕ) (fault : DimacsFault) : Type 0 where
  pub of_text : fault ≢ dimacs.NoMemory
  pub first : IsFirstFault text fault

-- why a text has no answer
abbrev pub IsTextFault : List ℕ → Fault → Type 0
IsTextFault text faults.Usage = ⊥
IsTextFault text faults.CannotRead = ⊥
IsTextFault text faults.TooLong = ⊥
IsTextFault text (faults.Format fault) = IsFaultOf text fault
IsTextFault text faults.CannotWrite = ⊥
IsTextFault text faults.CannotPrint = ⊥
IsTextFault text faults.NoMemory = Unit {0}

-- the file cannot be read, and no other one was asked for
pub record IsUnread (name : List ℕ) (old new : ShelfState) : Type 0 where
  pub fails : ReadingFails name old new
  pub last : SelectsNoOther name new

-- why a file has no answer
abbrev pub IsFileFault : List ℕ → ShelfState → ShelfState → Fault → Type 0
IsFileFault name old new faults.Usage = ⊥
IsFileFault name old new faults.CannotRead = IsUnread name old new
IsFileFault name old new faults.TooLong = IsLonger file_limit old name
IsFileFault name old new (faults.Format fault) = (fault ≢ dimacs.NoMemory) × OfContent old name (λ content. IsFirstFault content fault)
IsFileFault name old new faults.CannotWrite = ⊥
IsFileFault name old new faults.CannotPrint = ⊥
IsFileFault name old new faults.NoMemory = Unit {0}

-- why words have none
abbrev pub IsRefusal : Option Asked → ShelfState → ShelfState → Fault → Type 0
IsRefusal None old new fault = (fault ≡ faults.Usage) ⊎ (fault ≡ faults.NoMemory)
IsRefusal (Some asked) old new fault = IsFileFault asked.file old new fault

-- a count of reading that is larger after a file was read comes with a fault of reading
abbrev pub IsCounted : ShelfState → ShelfState → Fault → Type 0
IsCounted old new fault = (new.read_faults ≡ old.read_faults) ⊎ (fault ≡ faults.CannotRead)

-- the fault is none of writing
pub record IsUnwritten (fault : Fault) : Type 0 where
  pub of_file : fault ≢ faults.CannotWrite
  pub of_output : fault ≢ faults.CannotPrint
