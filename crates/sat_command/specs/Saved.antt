-- The file that a run of the program `sat` writes: the log of its answer.
use Rattle.std.specs.Prelude.{◌≡◌, ◌⊎◌, ℕ, List, [], ◌∷◌, Option, Some, None}
use Rattle.psl_base.specs.Saves.{NewFile, SavesAll, SavesPart}
use Rattle.psl_base.specs.Shelf.{ShelfState, OnlyReads}
use Rattle.clauses.specs.Logs.{LogEntry}
use Rattle.clause_text.specs.Lines.{lines_of}
use Rattle.cdcl.specs.declared.answer.Answer.{Answer}
use Rattle.cdcl.specs.declared.answer.Answer.TheVariants as answers
use Rattle.sat_command.specs.Requests.{Asked, log_asked}
use Rattle.sat_command.specs.declared.report.Fault.{Fault}
use Rattle.sat_command.specs.declared.report.Fault.TheVariants as faults

-- the log of an answer
abbrev pub log_of : Answer → Option (List LogEntry)
log_of (answers.Model values) = None
log_of (answers.Refuted log) = Some log
log_of (answers.Spent log) = Some log
log_of (answers.LogFull log) = Some log

-- the lines of a log, where there is one, in the file that they were asked for in
abbrev pub log_files : Option (List ℕ) → Option (List LogEntry) → List NewFile
log_files None log = []
log_files (Some name) None = []
log_files (Some name) (Some log) = record { name = name; content = lines_of log } ∷ []

-- the files that are to be written of what was found out
abbrev pub files_of : Option Asked → Option Answer → List NewFile
files_of asked None = []
files_of asked (Some answer) = log_files (log_asked asked) (log_of answer)

-- What writing did, in a run with this fault: all files have their contents whole; or writing one failed. Nothing else
-- changed.
pub record Writes (files : List NewFile) (fault : Option Fault) (old new : ShelfState) : Type 0 where
  pub saved : SavesAll files old new ⊎ ((fault ≡ Some faults.CannotWrite) × SavesPart files old new)
  pub read_faults : new.read_faults ≡ old.read_faults

-- what a run did to the files: where none is to be written, every content is as before
abbrev pub IsSaved : List NewFile → Option Fault → ShelfState → ShelfState → Type 0
IsSaved [] fault old new = OnlyReads old new
IsSaved (file ∷ files) fault old new = Writes (file ∷ files) fault old new
