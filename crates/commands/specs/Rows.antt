-- One row for each reason of a fault: what is printed of it, the status of a run that ends with it, and what it speaks of.
use Rattle.std.specs.Prelude.{ℕ, List, codes}
use Rattle.commands.specs.declared.reason.Reason.{Reason}
use Rattle.commands.specs.declared.reason.Reason.TheVariants.{Usage, ReadFault, WriteFault, TooLong, NoMemory, BadByte}
use Rattle.commands.specs.declared.reason.Reason.TheVariants.{Unended, NumberTooLarge, Syntax, Kind, UnknownName}
use Rattle.commands.specs.declared.reason.Reason.TheVariants.{Ambiguous, DeclaredTwice, EmptyRange, ConstantTooWide}
use Rattle.commands.specs.declared.reason.Reason.TheVariants.{TooLarge, SereTooLarge, AutomatonTooLarge, UnrollTooLarge}
use Rattle.commands.specs.declared.reason.Reason.TheVariants.{FormulaTooLarge, MissingSignal, NestedTooDeep}
use Rattle.commands.specs.declared.reason.Reason.TheVariants.{StatementTooLong, UnknownKeyword, MissingEnd, BadVar}
use Rattle.commands.specs.declared.reason.Reason.TheVariants.{CodeSizeDiffers, ScopeNotOpen, BadTime, TimeFalls}
use Rattle.commands.specs.declared.reason.Reason.TheVariants.{CodeNotDeclared, BadValue, VectorTooLong}
use Rattle.commands.specs.declared.reason.Reason.TheVariants.{ChangeBeforeDefinitionsEnd, EndsInside, TooManySamples}
use Rattle.commands.specs.declared.reason.Reason.TheVariants.{TooManySignals, UnknownValue, UnknownCommand, BadModel, BadRow}
use Rattle.commands.specs.declared.reason.Reason.TheVariants.{MixedRows, BadLatch, LatchType, TwoClocks, DrivenTwice}
use Rattle.commands.specs.declared.reason.Reason.TheVariants.{Undriven, CombinationalCycle, NetlistMissingEnd}
use Rattle.commands.specs.declared.reason.Reason.TheVariants.{SecondModel, NetlistTooLarge}
use Rattle.commands.specs.declared.reason.Reason.TheVariants.{UnknownModel, BadConnection, ModelRecursion}
use Rattle.commands.specs.declared.reason.Reason.TheVariants.{DrivenBySubckt, ModelTooDeep}

-- what a reason speaks of
pub data Cause : Type 0 where
  OfWords : Cause
  OfReading : Cause
  OfWriting : Cause
  OfText : Cause
  OfMemory : Cause

pub record Row : Type 0 where
  -- what is printed: where it is of a text, its code and its name
  pub words : List ℕ
  -- 2 for the words, 3 for reading, 4 for writing, 5 for a fault of a text, 7 for a limit and 8 for memory
  pub status : ℕ
  pub cause : Cause

abbrev row : List ℕ → ℕ → Cause → Row
row words status cause = record { words = words; status = status; cause = cause }

abbrev pub row_of : Reason → Row
row_of Usage = row (codes "usage: pslc wave|prove|check|show|gen|replay ARGUMENTS") 2 OfWords
row_of ReadFault = row (codes "read fault") 3 OfReading
row_of WriteFault = row (codes "write fault") 4 OfWriting
row_of TooLong = row (codes "TooLong") 7 OfText
row_of NoMemory = row (codes "no memory") 8 OfMemory
row_of BadByte = row (codes "1 BadByte") 5 OfText
row_of Unended = row (codes "2 Unended") 5 OfText
row_of NumberTooLarge = row (codes "3 NumberTooLarge") 5 OfText
row_of Syntax = row (codes "5 Syntax") 5 OfText
row_of Kind = row (codes "6 Kind") 5 OfText
row_of UnknownName = row (codes "7 UnknownName") 5 OfText
row_of Ambiguous = row (codes "8 Ambiguous") 5 OfText
row_of DeclaredTwice = row (codes "9 DeclaredTwice") 5 OfText
row_of EmptyRange = row (codes "10 EmptyRange") 5 OfText
row_of ConstantTooWide = row (codes "11 ConstantTooWide") 5 OfText
row_of TooLarge = row (codes "12 TooLarge") 7 OfText
row_of SereTooLarge = row (codes "13 SereTooLarge") 7 OfText
row_of AutomatonTooLarge = row (codes "14 AutomatonTooLarge") 7 OfText
row_of UnrollTooLarge = row (codes "15 UnrollTooLarge") 7 OfText
row_of NestedTooDeep = row (codes "16 NestedTooDeep") 7 OfText
row_of StatementTooLong = row (codes "17 StatementTooLong") 7 OfText
row_of MissingSignal = row (codes "18 MissingSignal") 5 OfText
row_of FormulaTooLarge = row (codes "19 FormulaTooLarge") 7 OfText
row_of UnknownKeyword = row (codes "V1 UnknownKeyword") 5 OfText
row_of MissingEnd = row (codes "V2 MissingEnd") 5 OfText
row_of BadVar = row (codes "V3 BadVar") 5 OfText
row_of CodeSizeDiffers = row (codes "V4 CodeSizeDiffers") 5 OfText
row_of ScopeNotOpen = row (codes "V5 ScopeNotOpen") 5 OfText
row_of BadTime = row (codes "V6 BadTime") 5 OfText
row_of TimeFalls = row (codes "V7 TimeFalls") 5 OfText
row_of CodeNotDeclared = row (codes "V8 CodeNotDeclared") 5 OfText
row_of BadValue = row (codes "V9 BadValue") 5 OfText
row_of VectorTooLong = row (codes "V10 VectorTooLong") 5 OfText
row_of ChangeBeforeDefinitionsEnd = row (codes "V11 ChangeBeforeDefinitionsEnd") 5 OfText
row_of EndsInside = row (codes "V12 EndsInside") 5 OfText
row_of TooManySamples = row (codes "V13 TooManySamples") 7 OfText
row_of TooManySignals = row (codes "V14 TooManySignals") 7 OfText
row_of UnknownValue = row (codes "V15 UnknownValue") 5 OfText
row_of UnknownCommand = row (codes "B1 UnknownCommand") 5 OfText
row_of BadModel = row (codes "B2 BadModel") 5 OfText
row_of BadRow = row (codes "B3 BadRow") 5 OfText
row_of MixedRows = row (codes "B4 MixedRows") 5 OfText
row_of BadLatch = row (codes "B5 BadLatch") 5 OfText
row_of LatchType = row (codes "B6 LatchType") 5 OfText
row_of TwoClocks = row (codes "B7 TwoClocks") 5 OfText
row_of DrivenTwice = row (codes "B8 DrivenTwice") 5 OfText
row_of Undriven = row (codes "B9 Undriven") 5 OfText
row_of CombinationalCycle = row (codes "B10 CombinationalCycle") 5 OfText
row_of NetlistMissingEnd = row (codes "B11 MissingEnd") 5 OfText
row_of SecondModel = row (codes "B12 SecondModel") 5 OfText
row_of NetlistTooLarge = row (codes "B13 TooLarge") 7 OfText
row_of UnknownModel = row (codes "B14 UnknownModel") 5 OfText
row_of BadConnection = row (codes "B15 BadConnection") 5 OfText
row_of ModelRecursion = row (codes "B16 ModelRecursion") 5 OfText
row_of DrivenBySubckt = row (codes "B17 DrivenBySubckt") 5 OfText
row_of ModelTooDeep = row (codes "B18 TooDeep") 7 OfText

-- what is printed of a reason
abbrev pub fault_words : Reason → List ℕ
fault_words reason = (row_of reason).words

-- the status of a run that ends with it
abbrev pub reason_status : Reason → ℕ
reason_status reason = (row_of reason).status

-- what it speaks of
abbrev pub cause_of : Reason → Cause
cause_of reason = (row_of reason).cause
