-- What each atom of the operands has, each atom of an operator's meaning has.
use Rattle.std.proofs.Common.{ℕ, Bool, true, false, List, [], ◌∷◌, Option, None, Some}
use Rattle.std.specs.Prelude.{All, if◌then◌else◌}
use Rattle.std.specs.Str.{bytes_eq}
use Rattle.std.proofs.lemmas.List.Elements.{All-head, All-tail}
use Rattle.psl_lexer.specs.declared.kind.TokenKind.{TokenKind}
use Rattle.psl_lexer.specs.declared.kind.TokenKind.TheVariants as kinds
use Rattle.psl_grammar.specs.declared.tree.Count as code_count
use Rattle.psl_grammar.specs.declared.tree.Count.TheVariants as counts
use Rattle.psl_sugar.proofs.RangedBooleans as booleans
use Rattle.psl_sugar.proofs.RangedProperties as properties
use Rattle.psl_sugar.proofs.RowLaws as rows
use Rattle.psl_sugar.proofs.RangedSequences as sequences
use Rattle.psl_layer_theory.specs.declared.operator.PrefixOperator.{PrefixOperator}
use Rattle.psl_layer_theory.specs.declared.operator.PrefixOperator.TheVariants as prefixes
use Rattle.psl_layer_theory.specs.declared.operator.RepetitionOperator.{RepetitionOperator}
use Rattle.psl_layer_theory.specs.declared.operator.RepetitionOperator.TheVariants as repetitions
use Rattle.psl_layer_theory.specs.Kernel.{Meaning, OfBoolean, OfSequence, OfProperty, Named, boolean_in, sequence_in, formula_in, strong_in, prefix_meaning, connected, sequenced, suffixed, aborted, lasting, literal_meaning, repeated_meaning, alone_meaning, clocked_meaning, clocked_in, grouped_meaning, next_meaning, event_meaning, declared_meaning, meaning_or}
use Rattle.psl_layer_theory.specs.Operators.{strength_of, quantifier_of}
use Rattle.psl_layer_theory.specs.Texts.{number_of}
use Rattle.psl_sugar.specs.Sequences.{any_letter}
use Rattle.psl_sugar.specs.declared.abort.AbortOperator.{AbortOperator}
use Rattle.psl_sugar.specs.declared.connectives.Connective.{Connective}
use Rattle.psl_sugar.specs.declared.count.Count as sugar_count
use Rattle.psl_sugar.specs.declared.operator.Strength.{Strength}
use Rattle.psl_sugar.specs.declared.sequence_operators.SequenceOperator.{SequenceOperator}
use Rattle.psl_sugar.specs.declared.suffix.SuffixOperator.{SuffixOperator}
use Rattle.psl_sugar.specs.declared.until.UntilOperator.{UntilOperator}
use Rattle.psl_tree.specs.Atoms.{AtomsOfBoolean, AtomsOfSequence, AtomsOfFormula}
use Rattle.psl_tree.specs.Trees.{Boolean, Formula, Now}
use Rattle.psl_tree.specs.declared.atom.Atom.{Atom}

module _ (P : Atom → Type 0) where
  -- each atom has P
  abbrev pub MeaningHas : Meaning → Type 0
  MeaningHas (OfBoolean test) = AtomsOfBoolean P test
  MeaningHas (OfSequence sequence) = AtomsOfSequence P sequence
  MeaningHas (OfProperty formula) = AtomsOfFormula P formula

  pub boolean-has : (part : Meaning) → MeaningHas part → AtomsOfBoolean P (boolean_in part)
  boolean-has (OfBoolean test) h = h
  boolean-has (OfSequence sequence) h = tt
  boolean-has (OfProperty formula) h = tt

  pub sequence-has : (part : Meaning) → MeaningHas part → AtomsOfSequence P (sequence_in part)
  sequence-has (OfBoolean test) h = h
  sequence-has (OfSequence sequence) h = h
  sequence-has (OfProperty formula) h = tt

  pub formula-has : (part : Meaning) → MeaningHas part → AtomsOfFormula P (formula_in part)
  formula-has (OfBoolean test) h = h
  formula-has (OfSequence sequence) h = h
  formula-has (OfProperty formula) h = h

  pub strong-has : (part : Meaning) → MeaningHas part → AtomsOfFormula P (strong_in part)
  strong-has (OfBoolean test) h = h
  strong-has (OfSequence sequence) h = h
  strong-has (OfProperty formula) h = h

  pub prefix-has : (operator : PrefixOperator) (strength : Strength) (part : Meaning) → MeaningHas part → MeaningHas (prefix_meaning operator strength part)
  prefix-has prefixes.Not strength (OfBoolean test) h = h
  prefix-has prefixes.Not strength (OfSequence sequence) h = h
  prefix-has prefixes.Not strength (OfProperty formula) h = h
  prefix-has prefixes.Always strength part h = properties.always-has P (formula_in part) (formula-has part h)
  prefix-has prefixes.Never strength (OfBoolean test) h = properties.never-has P (Now test) h
  prefix-has prefixes.Never strength (OfSequence sequence) h = properties.never-sequence-has P sequence h
  prefix-has prefixes.Never strength (OfProperty formula) h = properties.never-has P formula h
  prefix-has prefixes.Next strength part h = properties.next-has P strength (formula_in part) (formula-has part h)
  prefix-has prefixes.Eventually strength (OfBoolean test) h = properties.eventually-has P (Now test) h
  prefix-has prefixes.Eventually strength (OfSequence sequence) h = properties.eventually-sequence-has P sequence h
  prefix-has prefixes.Eventually strength (OfProperty formula) h = properties.eventually-has P formula h

  pub connected-has : (connective : Connective) (left right : Meaning) → MeaningHas left → MeaningHas right → MeaningHas (connected connective left right)
  connected-has connective (OfBoolean left) (OfBoolean right) h k = rows.boolean-row-has P connective left right h k
  connected-has connective left right h k = rows.formula-row-has P connective (formula_in left) (formula_in right) (formula-has left h) (formula-has right k)

  pub sequenced-has : (operator : SequenceOperator) (left right : Meaning) → MeaningHas left → MeaningHas right → MeaningHas (sequenced operator left right)
  sequenced-has operator left right h k = rows.sequence-row-has P operator (sequence_in left) (sequence_in right) (sequence-has left h) (sequence-has right k)

  pub suffixed-has : (operator : SuffixOperator) (left right : Meaning) → MeaningHas left → MeaningHas right → MeaningHas (suffixed operator left right)
  suffixed-has operator left right h k = rows.suffix-row-has P operator (sequence_in left) (formula_in right) (sequence-has left h) (formula-has right k)

  pub aborted-has : (operator : AbortOperator) (left right : Meaning) → MeaningHas left → MeaningHas right → MeaningHas (aborted operator left right)
  aborted-has operator left right h k = rows.abort-row-has P operator (formula_in left) (boolean_in right) (formula-has left h) (boolean-has right k)

  pub lasting-has : (operator : UntilOperator) (strength : Strength) (left right : Meaning) → MeaningHas left → MeaningHas right → MeaningHas (lasting operator strength left right)
  lasting-has operator strength left right h k =
      rows.until-row-has P operator strength (formula_in left) (formula_in right) (formula-has left h) (formula-has right k)

  pub literal-has : (kind : TokenKind) (value : ℕ) → AtomsOfBoolean P (literal_meaning kind value)
  literal-has kinds.True value = tt
  literal-has kinds.False value = tt
  literal-has _ value = booleans.number-has P value

  pub repeated-has : (operator : RepetitionOperator) (count : Option sugar_count.Count) (part : Meaning) → MeaningHas part → AtomsOfSequence P (repeated_meaning operator count part)
  repeated-has repetitions.Star None part h = sequence-has part h
  repeated-has repetitions.Star (Some count) part h = sequences.repeated-has P count (sequence_in part) (sequence-has part h)
  repeated-has repetitions.Plus count part h = sequences.plus-has P (sequence_in part) (sequence-has part h)
  repeated-has repetitions.Goto None part h = sequences.goto-has P (boolean_in part) (boolean-has part h)
  repeated-has repetitions.Goto (Some count) part h = sequences.goto-repeated-has P count (boolean_in part) (boolean-has part h)
  repeated-has repetitions.Occurrences None part h = tt
  repeated-has repetitions.Occurrences (Some count) part h = sequences.occurrences-has P count (boolean_in part) (boolean-has part h)

  pub alone-has : (operator : RepetitionOperator) (count : Option sugar_count.Count) → AtomsOfSequence P (alone_meaning operator count)
  alone-has repetitions.Star None = sequences.letters-has P
  alone-has repetitions.Star (Some count) = sequences.repeated-has P count any_letter (sequences.letter-has P)
  alone-has repetitions.Plus count = sequences.plus-has P any_letter (sequences.letter-has P)
  alone-has repetitions.Goto count = tt
  alone-has repetitions.Occurrences count = tt

  pub clocked-has : (part : Meaning) (clock : Boolean) → MeaningHas part → AtomsOfBoolean P clock → MeaningHas (clocked_meaning part clock)
  clocked-has (OfBoolean test) clock h k = (h, k)
  clocked-has (OfSequence sequence) clock h k = (h, k)
  clocked-has (OfProperty formula) clock h k = (h, k)

  pub clocked-in-has : (in_sere : Bool) (part : Meaning) (clock : Boolean) → MeaningHas part → AtomsOfBoolean P clock → MeaningHas (clocked_in in_sere part clock)
  clocked-in-has true part clock h k = (sequence-has part h, k)
  clocked-in-has false part clock h k = clocked-has part clock h k

  pub grouped-has : (part : Meaning) → MeaningHas part → MeaningHas (grouped_meaning part)
  grouped-has (OfBoolean test) h = h
  grouped-has (OfSequence sequence) h = h
  grouped-has (OfProperty formula) h = h

  pub next-form-has : (word : TokenKind) (count : code_count.Count) (part : Formula) → AtomsOfFormula P part → AtomsOfFormula P (next_meaning word count part)
  next-form-has word (counts.Times times) part h = properties.next-times-has P (strength_of word) (number_of times) part h
  next-form-has word (counts.Between low high) part h =
      properties.range-has P (quantifier_of word) (strength_of word) (number_of low) (number_of high) part h

  pub event-form-has : (word : TokenKind) (test : Boolean) (count : Option code_count.Count) (part : Formula) → AtomsOfBoolean P test → AtomsOfFormula P part
      → AtomsOfFormula P (event_meaning word test count part)
  event-form-has word test None part h k = properties.event-has P (strength_of word) test part h k
  event-form-has word test (Some (counts.Times times)) part h k = properties.event-times-has P (strength_of word) test (number_of times) part h k
  event-form-has word test (Some (counts.Between low high)) part h k =
      properties.event-range-has P (quantifier_of word) (strength_of word) test (number_of low) (number_of high) part h k

  -- what each declared name stands for has P
  abbrev pub NamedHave : List Named → Type 0
  NamedHave scope = All (λ named. MeaningHas named.meaning) scope

  one-of : (is : Bool) (own : Meaning) (rest : Option Meaning) (test : Boolean) → MeaningHas own → MeaningHas (meaning_or rest test)
      → MeaningHas (meaning_or (if is then Some own else rest) test)
  one-of true own rest test h k = h
  one-of false own rest test h k = k

  pub declared-has : (scope : List Named) (text : List ℕ) (test : Boolean) → NamedHave scope → AtomsOfBoolean P test → MeaningHas (meaning_or (declared_meaning scope text) test)
  declared-has [] text test have h = h
  declared-has (named ∷ more) text test have h =
      one-of (bytes_eq named.text text) named.meaning (declared_meaning more text) test
      (All-head (λ (one : Named). MeaningHas one.meaning) named more have)
      (declared-has more text test (All-tail (λ (one : Named). MeaningHas one.meaning) named more have) h)
