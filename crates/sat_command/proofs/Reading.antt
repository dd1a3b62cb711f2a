-- A file is read, and its text is solved.
use Rattle.std.proofs.Common.{◌≡◌, refl, ℕ, ◌≤◌, List, length, Some}
use Rattle.psl_base.specs.Places.{file_limit}
use Rattle.psl_base.specs.Shelf.{ShelfState, IsContent}
use Rattle.cdcl.specs.declared.answer.Answer.{Answer}
use Rattle.sat_command.specs.Answering.{IsAnswerFor, IsSolved, limit_of}
use Rattle.sat_command.specs.Refusals.{IsFileFault, IsTextFault}
use Rattle.sat_command.specs.Requests.{Asked}
use Rattle.sat_command.specs.declared.report.Fault.{Fault}
use Rattle.sat_command.specs.declared.report.Fault.TheVariants as faults

pub solved-text : (files : ShelfState) (bytes : List ℕ) (asked : Asked) (answer : Answer) → IsContent files asked.file bytes → length bytes ≤ file_limit
    → IsAnswerFor bytes (limit_of asked.steps) answer → IsSolved asked files answer
solved-text files bytes asked answer is within found = λ contents told. (bytes, is contents told, within, found)

pub text-fault : (name : List ℕ) (files after : ShelfState) (bytes : List ℕ) (fault : Fault) → IsContent files name bytes → length bytes ≤ file_limit
    → IsTextFault bytes fault → IsFileFault name files after fault
text-fault name files after bytes faults.Usage is within h = absurd h
text-fault name files after bytes faults.CannotRead is within h = absurd h
text-fault name files after bytes faults.TooLong is within h = absurd h
text-fault name files after bytes (faults.Format fault) is within h = (h.of_text, λ contents told. (bytes, is contents told, within, h.first))
text-fault name files after bytes faults.CannotWrite is within h = absurd h
text-fault name files after bytes faults.CannotPrint is within h = absurd h
text-fault name files after bytes faults.NoMemory is within h = tt
