-- What a builder answers for parts that were built: a row of what these stand for, or that this has more than 4,096
-- constructors.
use Rattle.std.specs.Prelude.{Result}
use Rattle.psl_tree.specs.Trees.{Boolean, Sequence, Formula}
use Rattle.psl_sugar.specs.Budget.{GivesBoolean, GivesSequence, GivesFormula}
use Rattle.psl_sugar.specs.declared.fault.SugarFault.{SugarFault}

-- a row of a Boolean
abbrev pub BooleanRow : (Boolean → Boolean) → Result Boolean SugarFault → Result Boolean SugarFault → Type 0
BooleanRow row part result = (test : Boolean) → GivesBoolean part test → GivesBoolean result (row test)

-- a row of two Booleans
abbrev pub BooleansRow : (Boolean → Boolean → Boolean) → Result Boolean SugarFault → Result Boolean SugarFault → Result Boolean SugarFault → Type 0
BooleansRow row left right result =
    (first second : Boolean) → GivesBoolean left first → GivesBoolean right second → GivesBoolean result (row first second)

-- a sequence of a Boolean
abbrev pub LetterRow : (Boolean → Sequence) → Result Boolean SugarFault → Result Sequence SugarFault → Type 0
LetterRow row part result = (test : Boolean) → GivesBoolean part test → GivesSequence result (row test)

-- a row of a sequence
abbrev pub SequenceRow : (Sequence → Sequence) → Result Sequence SugarFault → Result Sequence SugarFault → Type 0
SequenceRow row part result = (sequence : Sequence) → GivesSequence part sequence → GivesSequence result (row sequence)

-- a row of two sequences
abbrev pub SequencesRow : (Sequence → Sequence → Sequence) → Result Sequence SugarFault → Result Sequence SugarFault → Result Sequence SugarFault → Type 0
SequencesRow row left right result =
    (first second : Sequence) → GivesSequence left first → GivesSequence right second → GivesSequence result (row first second)

-- a sequence and a Boolean
abbrev pub SequenceClockRow : (Sequence → Boolean → Sequence) → Result Sequence SugarFault → Result Boolean SugarFault → Result Sequence SugarFault → Type 0
SequenceClockRow row left right result =
    (first : Sequence) (second : Boolean) → GivesSequence left first → GivesBoolean right second → GivesSequence result (row first second)

-- a row of a property
abbrev pub FormulaRow : (Formula → Formula) → Result Formula SugarFault → Result Formula SugarFault → Type 0
FormulaRow row part result = (formula : Formula) → GivesFormula part formula → GivesFormula result (row formula)

-- a row of two properties
abbrev pub FormulasRow : (Formula → Formula → Formula) → Result Formula SugarFault → Result Formula SugarFault → Result Formula SugarFault → Type 0
FormulasRow row left right result =
    (first second : Formula) → GivesFormula left first → GivesFormula right second → GivesFormula result (row first second)

-- a sequence and a property
abbrev pub SuffixRow : (Sequence → Formula → Formula) → Result Sequence SugarFault → Result Formula SugarFault → Result Formula SugarFault → Type 0
SuffixRow row left right result =
    (first : Sequence) (second : Formula) → GivesSequence left first → GivesFormula right second → GivesFormula result (row first second)

-- a property and a Boolean
abbrev pub FormulaTestRow : (Formula → Boolean → Formula) → Result Formula SugarFault → Result Boolean SugarFault → Result Formula SugarFault → Type 0
FormulaTestRow row left right result =
    (first : Formula) (second : Boolean) → GivesFormula left first → GivesBoolean right second → GivesFormula result (row first second)
