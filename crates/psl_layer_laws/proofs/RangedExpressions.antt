-- The atoms of what expressions stand for are in range of the names.
use Rattle.std.proofs.Common.{ℕ, zero, suc, ◌-◌, Bool, true, false, List, [], ◌∷◌, length, Option, None, Some}
use Rattle.std.proofs.lemmas.List.Elements.{All-head, All-tail}
use Rattle.std.specs.Prelude.{All}
use Rattle.psl_lexer.specs.declared.token.Token.{Token}
use Rattle.psl_grammar.specs.declared.tree.Expression as code_expression
use Rattle.psl_grammar.specs.declared.tree.Expression.TheVariants as expressions
use Rattle.psl_sugar.proofs.RangedBooleans as booleans
use Rattle.psl_layer_laws.proofs.RangedLookUp.{IsBit, InRange, reference-has}
use Rattle.psl_layer_laws.proofs.RangedOperators.{MeaningHas, NamedHave, boolean-has, sequence-has, formula-has, strong-has, prefix-has, connected-has, sequenced-has, suffixed-has, aborted-has, lasting-has, literal-has, repeated-has, alone-has, clocked-in-has, grouped-has, next-form-has, event-form-has, declared-has}
use Rattle.psl_sugar.proofs.RangedComparisons.{OperandHas}
use Rattle.psl_sugar.proofs.RowLaws.{comparison-row-has}
use Rattle.psl_layer_theory.specs.declared.found.Reference.{Reference}
use Rattle.psl_layer_theory.specs.declared.found.Reference.TheVariants as references
use Rattle.psl_layer_theory.specs.declared.operator.InfixOperator.{InfixOperator}
use Rattle.psl_layer_theory.specs.declared.operator.InfixOperator.TheVariants as operators
use Rattle.psl_layer_theory.specs.Kernel.{Meaning, Named, boolean_in, formula_in, bits_meaning, bits_operand, operand_of, compared, operated, edge_meaning, optional_count, signal_meaning, meaning_of}
use Rattle.psl_layer_theory.specs.Kinds.{operator_before}
use Rattle.psl_layer_theory.specs.References.{reference}
use Rattle.psl_layer_theory.specs.Operators.{prefix_operator, repetition_operator, strength_of, edge_of}
use Rattle.psl_layer_theory.specs.Texts.{path_text, literal_value}
use Rattle.psl_sugar.specs.Booleans.{bit_at}
use Rattle.psl_sugar.specs.declared.comparison.Comparison.{Comparison}
use Rattle.psl_sugar.specs.declared.operator.Strength.{Strength}
use Rattle.psl_tree.specs.Atoms.{AtomsOfBoolean}
use Rattle.psl_sugar.specs.declared.vector.Bit.{Bit}
use Rattle.psl_tree.specs.Names.{AtomInRange, AreAlike}
use Rattle.psl_tree.specs.declared.atom.Edge as atom_edge
use Rattle.psl_tree.specs.declared.name.Name.{Name}

module _ (names : List Name) (alike : AreAlike names) where
  -- a bit that is there, and a zero
  place-has : (bits : List Bit) → All (IsBit names) bits → (place : ℕ) → AtomsOfBoolean (AtomInRange names) (bit_at bits place)
  place-has [] each place = tt
  place-has (bit ∷ more) each zero =
      let is = All-head (IsBit names) bit more each in
      record { named = is.named; within = is.within }
  place-has (bit ∷ more) each (suc place) = place-has more (All-tail (IsBit names) bit more each) place

  bits-have : (found : Reference) → InRange names found → AtomsOfBoolean (AtomInRange names) (bits_meaning found)
  bits-have references.Nothing h = tt
  bits-have references.Several h = tt
  bits-have (references.Bits bits) h = booleans.some-has (AtomInRange names) bits (λ (bit : ℕ). place-has bits h (length bits - 1 - bit))

  bits-operand-has : (found : Reference) → InRange names found → OperandHas (AtomInRange names) (bits_operand found)
  bits-operand-has references.Nothing h = tt
  bits-operand-has references.Several h = tt
  bits-operand-has (references.Bits bits) h = place-has bits h

  operand-has : (x : code_expression.Expression) → OperandHas (AtomInRange names) (operand_of names x)
  operand-has (expressions.Signal path index) = bits-operand-has (reference names path index) (reference-has names alike path index)
  operand-has (expressions.Literal token) = tt
  operand-has _ = tt

  edge-has : (edge : atom_edge.Edge) (found : Reference) → InRange names found → AtomsOfBoolean (AtomInRange names) (edge_meaning edge found)
  edge-has edge references.Nothing h = tt
  edge-has edge references.Several h = tt
  edge-has edge (references.Bits []) each = tt
  edge-has edge (references.Bits (bit ∷ more)) each =
      let is = All-head (IsBit names) bit more each in
      record { named = is.named; within = is.within }

  compared-has : (comparison : Comparison) (x y : code_expression.Expression) → AtomsOfBoolean (AtomInRange names) (compared names comparison x y)
  compared-has comparison x y = comparison-row-has (AtomInRange names) comparison (operand_of names x) (operand_of names y) (operand-has x) (operand-has y)

  operated-has : (operator : InfixOperator) (strength : Strength) (x y : code_expression.Expression) (left right : Meaning)
      → MeaningHas (AtomInRange names) left → MeaningHas (AtomInRange names) right → MeaningHas (AtomInRange names) (operated names operator strength x y left right)
  operated-has (operators.Connective connective) strength x y left right h k = connected-has (AtomInRange names) connective left right h k
  operated-has (operators.Comparison comparison) strength x y left right h k = compared-has comparison x y
  operated-has (operators.Sequence operator) strength x y left right h k = sequenced-has (AtomInRange names) operator left right h k
  operated-has (operators.Suffix operator) strength x y left right h k = suffixed-has (AtomInRange names) operator left right h k
  operated-has (operators.Abort operator) strength x y left right h k = aborted-has (AtomInRange names) operator left right h k
  operated-has (operators.Until operator) strength x y left right h k = lasting-has (AtomInRange names) operator strength left right h k

  module _ (scope : List Named) (have : NamedHave (AtomInRange names) scope) where
    signal-has : (path : List Token) (index : Option Token) → MeaningHas (AtomInRange names) (signal_meaning scope names path index)
    signal-has path None =
        declared-has (AtomInRange names) scope (path_text path) (bits_meaning (reference names path None)) have (bits-have (reference names path None) (reference-has names alike path None))
    signal-has path (Some index) = bits-have (reference names path (Some index)) (reference-has names alike path (Some index))

    pub meaning-has : (in_sere : Bool) (x : code_expression.Expression) → MeaningHas (AtomInRange names) (meaning_of scope names in_sere x)
    meaning-has in_sere (expressions.Prefix' operator _ x) =
        prefix-has (AtomInRange names) (prefix_operator operator.kind) (strength_of operator.kind) (meaning_of scope names in_sere x) (meaning-has in_sere x)
    meaning-has in_sere (expressions.Infix' _ x operator _ y) =
        operated-has (operator_before in_sere operator.kind y) (strength_of operator.kind) x y (meaning_of scope names in_sere x) (meaning_of scope names in_sere y)
        (meaning-has in_sere x) (meaning-has in_sere y)
    meaning-has in_sere (expressions.Postfix' _ x operator) = strong-has (AtomInRange names) (meaning_of scope names in_sere x) (meaning-has in_sere x)
    meaning-has in_sere (expressions.Repeated' _ x opening count) =
        repeated-has (AtomInRange names) (repetition_operator opening.kind) (optional_count count) (meaning_of scope names in_sere x) (meaning-has in_sere x)
    meaning-has in_sere (expressions.Clocked' _ x at _ clock) =
        clocked-in-has (AtomInRange names) in_sere (meaning_of scope names in_sere x) (boolean_in (meaning_of scope names false clock)) (meaning-has in_sere x)
        (boolean-has (AtomInRange names) (meaning_of scope names false clock) (meaning-has false clock))
    meaning-has in_sere (expressions.Grouped' opening _ x) = grouped-has (AtomInRange names) (meaning_of scope names false x) (meaning-has false x)
    meaning-has in_sere (expressions.Braced' opening _ x) = sequence-has (AtomInRange names) (meaning_of scope names true x) (meaning-has true x)
    meaning-has in_sere (expressions.Repetition opening count) = alone-has (AtomInRange names) (repetition_operator opening.kind) (optional_count count)
    meaning-has in_sere (expressions.Literal token) = literal-has (AtomInRange names) token.kind (literal_value token)
    meaning-has in_sere (expressions.Signal path index) = signal-has path index
    meaning-has in_sere (expressions.Edge edge path index) = edge-has (edge_of edge.kind) (reference names path index) (reference-has names alike path index)
    meaning-has in_sere (expressions.NextTimes' word count _ x) =
        next-form-has (AtomInRange names) word.kind count (formula_in (meaning_of scope names false x))
        (formula-has (AtomInRange names) (meaning_of scope names false x) (meaning-has false x))
    meaning-has in_sere (expressions.NextEvent' word _ condition count _ x) =
        event-form-has (AtomInRange names) word.kind (boolean_in (meaning_of scope names false condition)) count (formula_in (meaning_of scope names false x))
        (boolean-has (AtomInRange names) (meaning_of scope names false condition) (meaning-has false condition))
        (formula-has (AtomInRange names) (meaning_of scope names false x) (meaning-has false x))
