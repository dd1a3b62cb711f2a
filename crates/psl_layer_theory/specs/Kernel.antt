-- The kernel of an expression: the Boolean, the sequence or the property that it stands for (IEEE 1850, clauses 5 and 6).
-- An expression without faults has it by these rows. Where an operand is at fault, a constant, the value 0 or the empty
-- sequence stands in its place, and nothing rests on it.
use Rattle.std.specs.Prelude.{Bool as Truth, true, false, ℕ, List, [], ◌∷◌, Option, None, Some, if◌then◌else◌}
use Rattle.std.specs.Str.{bytes_eq}
use Rattle.psl_lexer.specs.declared.kind.TokenKind.{TokenKind}
use Rattle.psl_lexer.specs.declared.kind.TokenKind.TheVariants as kinds
use Rattle.psl_lexer.specs.declared.token.Token.{Token}
use Rattle.psl_grammar.specs.declared.tree.Count as code_count
use Rattle.psl_grammar.specs.declared.tree.Count.TheVariants as counts
use Rattle.psl_grammar.specs.declared.tree.Expression as code_expression
use Rattle.psl_grammar.specs.declared.tree.Expression.TheVariants as expressions
use Rattle.psl_tree.specs.Trees.{Boolean, Sequence, Formula, Const, Test, Not, Empty, One, Star, Clocked, Now, NowStrong, Weak, Strong}
use Rattle.psl_tree.specs.declared.atom.Edge as atom_edge
use Rattle.psl_tree.specs.declared.name.Name.{Name}
use Rattle.psl_tree.specs.Sugar.{eventually, always}
use Rattle.psl_sugar.specs.Booleans.{number, some_bit}
use Rattle.psl_sugar.specs.Comparisons.{comparison_row}
use Rattle.psl_sugar.specs.Connectives.{boolean_row, formula_row}
use Rattle.psl_sugar.specs.Properties.{never, never_sequence, eventually_sequence, until_row, suffix_row, abort_row, next, next_times, next_event, next_event_times, next_range, next_event_range}
use Rattle.psl_sugar.specs.Sequences.{any_letter, any_letters, plus, repeated, goto, goto_repeated, occurrences, sequence_row}
use Rattle.psl_sugar.specs.declared.abort.AbortOperator.{AbortOperator}
use Rattle.psl_sugar.specs.declared.vector.Bit.{Bit}
use Rattle.psl_sugar.specs.declared.comparison.Comparison.{Comparison}
use Rattle.psl_sugar.specs.declared.connectives.Connective.{Connective}
use Rattle.psl_sugar.specs.declared.count.Count as sugar_count
use Rattle.psl_sugar.specs.declared.count.Count.TheVariants as sugar_counts
use Rattle.psl_sugar.specs.declared.operand.Operand.{Operand}
use Rattle.psl_sugar.specs.declared.operand.Operand.TheVariants as sides
use Rattle.psl_sugar.specs.declared.operator.Strength.{Strength}
use Rattle.psl_sugar.specs.declared.sequence_operators.SequenceOperator.{SequenceOperator}
use Rattle.psl_sugar.specs.declared.suffix.SuffixOperator.{SuffixOperator}
use Rattle.psl_sugar.specs.declared.until.UntilOperator.{UntilOperator}
use Rattle.psl_layer_theory.specs.declared.found.Reference.{Reference}
use Rattle.psl_layer_theory.specs.declared.found.Reference.TheVariants as references
use Rattle.psl_layer_theory.specs.declared.operator.InfixOperator.{InfixOperator}
use Rattle.psl_layer_theory.specs.declared.operator.InfixOperator.TheVariants as operators
use Rattle.psl_layer_theory.specs.declared.operator.PrefixOperator.{PrefixOperator}
use Rattle.psl_layer_theory.specs.declared.operator.PrefixOperator.TheVariants as prefixes
use Rattle.psl_layer_theory.specs.declared.operator.RepetitionOperator.{RepetitionOperator}
use Rattle.psl_layer_theory.specs.declared.operator.RepetitionOperator.TheVariants as repetitions
use Rattle.psl_layer_theory.specs.Kinds.{operator_before}
use Rattle.psl_layer_theory.specs.References.{reference}
use Rattle.psl_layer_theory.specs.Operators.{prefix_operator, repetition_operator, strength_of, quantifier_of, edge_of, is_endless}
use Rattle.psl_layer_theory.specs.Texts.{path_text, number_of, literal_value}

-- what an expression stands for, by its kind
pub data Meaning : Type 0 where
  OfBoolean : Boolean → Meaning
  OfSequence : Sequence → Meaning
  OfProperty : Formula → Meaning

-- a declared name and what it stands for
pub record Named : Type 0 where
  pub text : List ℕ
  pub meaning : Meaning

-- as a Boolean
abbrev pub boolean_in : Meaning → Boolean
boolean_in (OfBoolean test) = test
boolean_in (OfSequence sequence) = Const false
boolean_in (OfProperty formula) = Const false

-- as a sequence: a Boolean is one letter
abbrev pub sequence_in : Meaning → Sequence
sequence_in (OfBoolean test) = One test
sequence_in (OfSequence sequence) = sequence
sequence_in (OfProperty formula) = Empty

-- as a property: a Boolean b is Now(b), a sequence r is Weak(r)
abbrev pub formula_in : Meaning → Formula
formula_in (OfBoolean test) = Now test
formula_in (OfSequence sequence) = Weak sequence
formula_in (OfProperty formula) = formula

-- with `!` behind it: b! is NowStrong(b), r! is Strong(r)
abbrev pub strong_in : Meaning → Formula
strong_in (OfBoolean test) = NowStrong test
strong_in (OfSequence sequence) = Strong sequence
strong_in (OfProperty formula) = formula

-- an operator before its operand
abbrev pub prefix_meaning : PrefixOperator → Strength → Meaning → Meaning
prefix_meaning prefixes.Not strength (OfBoolean test) = OfBoolean (Not test)
prefix_meaning prefixes.Not strength part = OfProperty (Not (formula_in part))
prefix_meaning prefixes.Always strength part = OfProperty (always (formula_in part))
prefix_meaning prefixes.Never strength (OfSequence sequence) = OfProperty (never_sequence sequence)
prefix_meaning prefixes.Never strength part = OfProperty (never (formula_in part))
prefix_meaning prefixes.Next strength part = OfProperty (next strength (formula_in part))
prefix_meaning prefixes.Eventually strength (OfSequence sequence) = OfProperty (eventually_sequence sequence)
prefix_meaning prefixes.Eventually strength part = OfProperty (eventually (formula_in part))

-- a connective: on Booleans if both operands are, else on properties
abbrev pub connected : Connective → Meaning → Meaning → Meaning
connected connective (OfBoolean left) (OfBoolean right) = OfBoolean (boolean_row connective left right)
connected connective left right = OfProperty (formula_row connective (formula_in left) (formula_in right))

-- an operator of sequences
abbrev pub sequenced : SequenceOperator → Meaning → Meaning → Meaning
sequenced operator left right = OfSequence (sequence_row operator (sequence_in left) (sequence_in right))

-- a suffix implication
abbrev pub suffixed : SuffixOperator → Meaning → Meaning → Meaning
suffixed operator left right = OfProperty (suffix_row operator (sequence_in left) (formula_in right))

-- an abort
abbrev pub aborted : AbortOperator → Meaning → Meaning → Meaning
aborted operator left right = OfProperty (abort_row operator (formula_in left) (boolean_in right))

-- an operator of properties that is strong or weak
abbrev pub lasting : UntilOperator → Strength → Meaning → Meaning → Meaning
lasting operator strength left right = OfProperty (until_row operator strength (formula_in left) (formula_in right))

-- a signal, a bit, a vector or a bus as a Boolean: some bit is 1
abbrev pub bits_meaning : Reference → Boolean
bits_meaning references.Nothing = Const false
bits_meaning references.Several = Const false
bits_meaning (references.Bits bits) = some_bit bits

-- bits as a side of a comparison
abbrev pub bits_operand : Reference → Operand
bits_operand references.Nothing = sides.Value 0
bits_operand references.Several = sides.Value 0
bits_operand (references.Bits bits) = sides.Bits bits

-- a side of a comparison: a signal, or the value of a number or a constant
abbrev pub operand_of : List Name → code_expression.Expression → Operand
operand_of names (expressions.Signal path index) = bits_operand (reference names path index)
operand_of names (expressions.Literal token) = sides.Value (literal_value token)
operand_of names _ = sides.Value 0

-- a comparison of two sides
abbrev pub compared : List Name → Comparison → code_expression.Expression → code_expression.Expression → Boolean
compared names comparison x y = comparison_row comparison (operand_of names x) (operand_of names y)

-- an operator between its operands: a comparison reads their trees, any other what they stand for
abbrev pub operated : List Name → InfixOperator → Strength → code_expression.Expression → code_expression.Expression → Meaning → Meaning → Meaning
operated names (operators.Connective connective) strength x y left right = connected connective left right
operated names (operators.Comparison comparison) strength x y left right = OfBoolean (compared names comparison x y)
operated names (operators.Sequence operator) strength x y left right = sequenced operator left right
operated names (operators.Suffix operator) strength x y left right = suffixed operator left right
operated names (operators.Abort operator) strength x y left right = aborted operator left right
operated names (operators.Until operator) strength x y left right = lasting operator strength left right

-- a rise or a fall of the first of some bits
abbrev pub edge_of_first : atom_edge.Edge → List Bit → Boolean
edge_of_first edge [] = Const false
edge_of_first edge (bit ∷ more) = Test (record { signal = bit.signal; bit = bit.place; edge = edge })

-- a rise or a fall of a bit
abbrev pub edge_meaning : atom_edge.Edge → Reference → Boolean
edge_meaning edge references.Nothing = Const false
edge_meaning edge references.Several = Const false
edge_meaning edge (references.Bits bits) = edge_of_first edge bits

-- `true` and `false`, and a number or a constant as a Boolean
abbrev pub literal_meaning : TokenKind → ℕ → Boolean
literal_meaning kinds.True value = Const true
literal_meaning kinds.False value = Const false
literal_meaning _ value = number value

-- a count
abbrev pub count_meaning : code_count.Count → sugar_count.Count
count_meaning (counts.Times times) = sugar_counts.Times (number_of times)
count_meaning (counts.Between low high) =
    if is_endless high.kind then sugar_counts.AtLeast (number_of low) else sugar_counts.Between (number_of low) (number_of high)

-- a repetition behind its operand; a `[=` has a count
abbrev pub repeated_meaning : RepetitionOperator → Option sugar_count.Count → Meaning → Sequence
repeated_meaning repetitions.Star None part = Star (sequence_in part)
repeated_meaning repetitions.Star (Some count) part = repeated count (sequence_in part)
repeated_meaning repetitions.Plus _ part = plus (sequence_in part)
repeated_meaning repetitions.Goto None part = goto (boolean_in part)
repeated_meaning repetitions.Goto (Some count) part = goto_repeated count (boolean_in part)
repeated_meaning repetitions.Occurrences None part = Empty
repeated_meaning repetitions.Occurrences (Some count) part = occurrences count (boolean_in part)

-- a repetition alone: of any letter
abbrev pub alone_meaning : RepetitionOperator → Option sugar_count.Count → Sequence
alone_meaning repetitions.Star None = any_letters
alone_meaning repetitions.Star (Some count) = repeated count any_letter
alone_meaning repetitions.Plus _ = plus any_letter
alone_meaning repetitions.Goto _ = Empty
alone_meaning repetitions.Occurrences _ = Empty

-- a count, if there is one
abbrev pub optional_count : Option code_count.Count → Option sugar_count.Count
optional_count None = None
optional_count (Some count) = Some (count_meaning count)

-- `e @ c` outside of a sere
abbrev pub clocked_meaning : Meaning → Boolean → Meaning
clocked_meaning (OfSequence sequence) clock = OfSequence (Clocked sequence clock)
clocked_meaning part clock = OfProperty (Clocked (formula_in part) clock)

-- `e @ c`, in a sere and outside of one
abbrev pub clocked_in : Truth → Meaning → Boolean → Meaning
clocked_in true part clock = OfSequence (Clocked (sequence_in part) clock)
clocked_in false part clock = clocked_meaning part clock

-- in round brackets
abbrev pub grouped_meaning : Meaning → Meaning
grouped_meaning (OfBoolean test) = OfBoolean test
grouped_meaning part = OfProperty (formula_in part)

-- a next form: with one number, and with a range
abbrev pub next_meaning : TokenKind → code_count.Count → Formula → Formula
next_meaning word (counts.Times times) part = next_times (strength_of word) (number_of times) part
next_meaning word (counts.Between low high) part = next_range (quantifier_of word) (strength_of word) (number_of low) (number_of high) part

-- a next event: without a count, with one number, and with a range
abbrev pub event_meaning : TokenKind → Boolean → Option code_count.Count → Formula → Formula
event_meaning word test None part = next_event (strength_of word) test part
event_meaning word test (Some (counts.Times times)) part = next_event_times (strength_of word) test (number_of times) part
event_meaning word test (Some (counts.Between low high)) part =
    next_event_range (quantifier_of word) (strength_of word) test (number_of low) (number_of high) part

-- what a text is declared as, by the first declaration of it
abbrev pub declared_meaning : List Named → List ℕ → Option Meaning
declared_meaning [] text = None
declared_meaning (named ∷ more) text = if bytes_eq named.text text then Some named.meaning else declared_meaning more text

-- the first meaning, if there is one, else a Boolean
abbrev pub meaning_or : Option Meaning → Boolean → Meaning
meaning_or None test = OfBoolean test
meaning_or (Some meaning) test = meaning

-- a path: a declared name stands for what it was declared as, any other for a signal
abbrev pub signal_meaning : List Named → List Name → List Token → Option Token → Meaning
signal_meaning scope names path None = meaning_or (declared_meaning scope (path_text path)) (bits_meaning (reference names path None))
signal_meaning scope names path (Some index) = OfBoolean (bits_meaning (reference names path (Some index)))

-- What an expression stands for, after the declarations before it in its list, in a sere or outside of one.
abbrev pub meaning_of : List Named → List Name → Truth → code_expression.Expression → Meaning
meaning_of scope names in_sere (expressions.Prefix' operator _ x) =
    prefix_meaning (prefix_operator operator.kind) (strength_of operator.kind) (meaning_of scope names in_sere x)
meaning_of scope names in_sere (expressions.Infix' _ x operator _ y) =
    operated names (operator_before in_sere operator.kind y) (strength_of operator.kind) x y (meaning_of scope names in_sere x) (meaning_of scope names in_sere y)
meaning_of scope names in_sere (expressions.Postfix' _ x operator) = OfProperty (strong_in (meaning_of scope names in_sere x))
meaning_of scope names in_sere (expressions.Repeated' _ x opening count) =
    OfSequence (repeated_meaning (repetition_operator opening.kind) (optional_count count) (meaning_of scope names in_sere x))
meaning_of scope names in_sere (expressions.Clocked' _ x at _ clock) =
    clocked_in in_sere (meaning_of scope names in_sere x) (boolean_in (meaning_of scope names false clock))
meaning_of scope names in_sere (expressions.Grouped' opening _ x) = grouped_meaning (meaning_of scope names false x)
meaning_of scope names in_sere (expressions.Braced' opening _ x) = OfSequence (sequence_in (meaning_of scope names true x))
meaning_of scope names in_sere (expressions.Repetition opening count) = OfSequence (alone_meaning (repetition_operator opening.kind) (optional_count count))
meaning_of scope names in_sere (expressions.Literal token) = OfBoolean (literal_meaning token.kind (literal_value token))
meaning_of scope names in_sere (expressions.Signal path index) = signal_meaning scope names path index
meaning_of scope names in_sere (expressions.Edge edge path index) = OfBoolean (edge_meaning (edge_of edge.kind) (reference names path index))
meaning_of scope names in_sere (expressions.NextTimes' word count _ x) = OfProperty (next_meaning word.kind count (formula_in (meaning_of scope names false x)))
meaning_of scope names in_sere (expressions.NextEvent' word _ condition count _ x) =
    OfProperty (event_meaning word.kind (boolean_in (meaning_of scope names false condition)) count (formula_in (meaning_of scope names false x)))
