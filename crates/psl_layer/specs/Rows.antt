-- Rows of the table of derived forms, by the kinds of their operands, and what a builder of a row gives: the row of what
-- its operands stand for, or that this has more than 4,096 constructors.
use Rattle.std.specs.Prelude.{◌≡◌, List, Option, None, Some, Result}
use Rattle.psl_lexer.specs.declared.token.Token.{Token}
use Rattle.psl_grammar.specs.declared.tree.Count as code_count
use Rattle.psl_grammar.specs.declared.tree.Expression as code_expression
use Rattle.psl_tree.specs.declared.name.Name.{Name}
use Rattle.psl_tree.specs.Trees.{Boolean, Sequence, Formula, Empty, Star, Strong, Not}
use Rattle.psl_tree.specs.Sugar.{eventually, always}
use Rattle.psl_sugar.specs.Budget.{GivesBoolean, GivesSequence, GivesFormula}
use Rattle.psl_sugar.specs.Properties.{never, next}
use Rattle.psl_sugar.specs.Sequences.{repeated, goto, goto_repeated, occurrences}
use Rattle.psl_sugar.specs.declared.count.Count.{Count}
use Rattle.psl_sugar.specs.declared.fault.SugarFault.{SugarFault}
use Rattle.psl_sugar.specs.declared.operator.Strength.{Strength}
use Rattle.psl_layer_theory.specs.Kernel.{Meaning, OfSequence, formula_in, repeated_meaning, optional_count, operand_of, operated}
use Rattle.psl_layer_theory.specs.Operators.{repetition_operator}
use Rattle.psl_layer_theory.specs.declared.operator.InfixOperator.{InfixOperator}
use Rattle.psl_layer_theory.specs.declared.operator.PrefixOperator.{PrefixOperator}
use Rattle.psl_layer_theory.specs.declared.operator.PrefixOperator.TheVariants as prefixes
use Rattle.psl_layer.specs.Built.{Gives, GivesSense, BuiltPart, GivesPart, operand_in}
use Rattle.psl_layer.specs.declared.elaborated.Sense as code_sense
use Rattle.psl_layer.specs.declared.meaning.Meaning as code_meaning

-- an operator before a property
abbrev pub prefix_row : PrefixOperator → Strength → Formula → Formula
prefix_row prefixes.Not strength part = Not part
prefix_row prefixes.Always strength part = always part
prefix_row prefixes.Never strength part = never part
prefix_row prefixes.Next strength part = next strength part
prefix_row prefixes.Eventually strength part = eventually part

-- as what `never` and `eventually!` speak of: a sequence is strong there
abbrev pub eventual_in : Meaning → Formula
eventual_in (OfSequence sequence) = Strong sequence
eventual_in part = formula_in part

-- a repetition of a sequence, without a count and with one
abbrev pub star_row : Option Count → Sequence → Sequence
star_row None part = Star part
star_row (Some count) part = repeated count part

-- the letters up to one that a Boolean holds at
abbrev pub goto_row : Option Count → Boolean → Sequence
goto_row None part = goto part
goto_row (Some count) part = goto_repeated count part

-- so many letters at which a Boolean holds
abbrev pub occurrences_row : Option Count → Boolean → Sequence
occurrences_row None part = Empty
occurrences_row (Some count) part = occurrences count part

-- a row of anything
abbrev pub MeaningRow : (Meaning → Meaning) → code_meaning.Meaning → code_meaning.Meaning → Type 0
MeaningRow row part result = (meaning : Meaning) → Gives part meaning → Gives result (row meaning)

-- a row of any two
abbrev pub MeaningsRow : (Meaning → Meaning → Meaning) → code_meaning.Meaning → code_meaning.Meaning → code_meaning.Meaning → Type 0
MeaningsRow row left right result = (first second : Meaning) → Gives left first → Gives right second → Gives result (row first second)

-- the same of what is built later
abbrev pub PartRow : (Meaning → Meaning) → code_sense.Sense → BuiltPart → Type 0
PartRow row part result = (meaning : Meaning) → GivesSense part meaning → GivesPart result (row meaning)

abbrev pub PartsRow : (Meaning → Meaning → Meaning) → code_sense.Sense → code_sense.Sense → BuiltPart → Type 0
PartsRow row left right result =
    (first second : Meaning) → GivesSense left first → GivesSense right second → GivesPart result (row first second)

-- a tree for what may be built later
abbrev pub ReadSense : code_sense.Sense → code_meaning.Meaning → Type 0
ReadSense part result = (meaning : Meaning) → GivesSense part meaning → Gives result meaning

-- An operator between operands, whatever expressions these were built of: a comparison reads the trees of these, and so
-- what was built has to say what stands there.
abbrev pub OperatedRow : InfixOperator → Strength → code_sense.Sense → code_sense.Sense → code_meaning.Meaning → Type 0
OperatedRow operator strength left right result =
    (names : List Name) (x y : code_expression.Expression) (first second : Meaning) →
    operand_in left ≡ operand_of names x → operand_in right ≡ operand_of names y →
    GivesSense left first → GivesSense right second → Gives result (operated names operator strength x y first second)

-- the same in a box
abbrev pub InfixRow : InfixOperator → Strength → code_sense.Sense → code_sense.Sense → BuiltPart → Type 0
InfixRow operator strength left right result =
    (names : List Name) (x y : code_expression.Expression) (first second : Meaning) →
    operand_in left ≡ operand_of names x → operand_in right ≡ operand_of names y →
    GivesSense left first → GivesSense right second → GivesPart result (operated names operator strength x y first second)

-- anything and a Boolean
abbrev pub ClockRow : (Meaning → Boolean → Meaning) → code_meaning.Meaning → Result Boolean SugarFault → code_meaning.Meaning → Type 0
ClockRow row part clock result =
    (first : Meaning) (second : Boolean) → Gives part first → GivesBoolean clock second → Gives result (row first second)

-- what is built, read as a Boolean, a sequence or a property
abbrev pub ReadBoolean : (Meaning → Boolean) → code_meaning.Meaning → Result Boolean SugarFault → Type 0
ReadBoolean read part result = (meaning : Meaning) → Gives part meaning → GivesBoolean result (read meaning)

abbrev pub ReadSequence : (Meaning → Sequence) → code_meaning.Meaning → Result Sequence SugarFault → Type 0
ReadSequence read part result = (meaning : Meaning) → Gives part meaning → GivesSequence result (read meaning)

abbrev pub ReadFormula : (Meaning → Formula) → code_meaning.Meaning → Result Formula SugarFault → Type 0
ReadFormula read part result = (meaning : Meaning) → Gives part meaning → GivesFormula result (read meaning)

-- a repetition of anything, as it is written behind it
abbrev pub repetition_row : Token → Option code_count.Count → Meaning → Meaning
repetition_row opening count part = OfSequence (repeated_meaning (repetition_operator opening.kind) (optional_count count) part)
