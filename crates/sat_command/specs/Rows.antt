-- What is printed of each fault, and the status of a run that ends with it.
use Rattle.std.specs.Prelude.{ℕ, List, codes}
use Rattle.sat_dimacs.specs.declared.fault.DimacsFault.{DimacsFault}
use Rattle.sat_dimacs.specs.declared.fault.DimacsFault.TheVariants as dimacs
use Rattle.sat_command.specs.declared.report.Fault.{Fault}
use Rattle.sat_command.specs.declared.report.Fault.TheVariants as faults

pub record Row : Type 0 where
  -- what is printed: where it is of a text, its code and its name
  pub words : List ℕ
  -- 2 for the words, 3 for reading, 4 for writing, 5 for a fault of a text, 7 for a limit and 8 for memory
  pub status : ℕ

abbrev row : List ℕ → ℕ → Row
row words status = record { words = words; status = status }

abbrev pub text_row : DimacsFault → Row
text_row (dimacs.NoHeader place) = row (codes "F1 NoHeader") 5
text_row (dimacs.BadHeader place) = row (codes "F2 BadHeader") 5
text_row (dimacs.SecondHeader place) = row (codes "F3 SecondHeader") 5
text_row (dimacs.NotALiteral place) = row (codes "F4 NotALiteral") 5
text_row (dimacs.LiteralTooLarge place) = row (codes "F5 LiteralTooLarge") 5
text_row (dimacs.MoreClauses place) = row (codes "F6 MoreClauses") 5
text_row (dimacs.FewerClauses place) = row (codes "F7 FewerClauses") 5
text_row (dimacs.OpenClause place) = row (codes "F8 OpenClause") 5
text_row (dimacs.TooLarge place) = row (codes "F9 TooLarge") 7
text_row dimacs.NoMemory = row (codes "no memory") 8

abbrev pub row_of : Fault → Row
row_of faults.Usage = row (codes "usage: sat FILE.cnf [--steps N] [--log FILE]") 2
row_of faults.CannotRead = row (codes "read fault") 3
row_of faults.TooLong = row (codes "TooLong") 7
row_of (faults.Format fault) = text_row fault
row_of faults.CannotWrite = row (codes "write fault") 4
row_of faults.CannotPrint = row (codes "write fault") 4
row_of faults.NoMemory = row (codes "no memory") 8
