-- What the program `sat` prints.
use Rattle.std.specs.Prelude.{ℕ, List, [], ◌∷◌, ◌++◌, Option, Some, None, codes, decimal}
use Rattle.psl_base.specs.declared.place.Place.{Place}
use Rattle.cdcl.specs.declared.answer.Answer.{Answer}
use Rattle.cdcl.specs.declared.answer.Answer.TheVariants as answers
use Rattle.sat_dimacs.specs.Faults.{place_of}
use Rattle.sat_command.specs.Models.{model_text}
use Rattle.sat_command.specs.Requests.{Asked}
use Rattle.sat_command.specs.Rows.{row_of}
use Rattle.sat_command.specs.declared.report.Fault.{Fault}
use Rattle.sat_command.specs.declared.report.Fault.TheVariants as faults

-- the text of an answer, in the words of the solvers' competitions
abbrev pub answer_text : Answer → List ℕ
answer_text (answers.Model values) = codes "s SATISFIABLE\n" ++ model_text values
answer_text (answers.Refuted log) = codes "s UNSATISFIABLE\n"
answer_text (answers.Spent log) = codes "s UNKNOWN\n"
answer_text (answers.LogFull log) = codes "s UNKNOWN\n"

-- a place in a file, and a blank behind it
abbrev pub place_text : Option Place → List ℕ
place_text None = codes ": "
place_text (Some place) = codes ":" ++ decimal place.line ++ codes ":" ++ decimal place.column ++ codes ": "

-- the file of the formula, perhaps with a place
abbrev pub file_text : Option Asked → Option Place → List ℕ
file_text None place = []
file_text (Some asked) place = asked.file ++ place_text place

-- the file that a fault is of
abbrev pub about : Option Asked → Fault → List ℕ
about asked faults.Usage = []
about asked faults.CannotRead = file_text asked None
about asked faults.TooLong = file_text asked None
about asked (faults.Format fault) = file_text asked (place_of fault)
about asked faults.CannotWrite = []
about asked faults.CannotPrint = []
about asked faults.NoMemory = []

-- a fault's line
abbrev pub line_of : Option Asked → Fault → List ℕ
line_of asked fault = codes "sat: " ++ about asked fault ++ (row_of fault).words ++ codes "\n"
