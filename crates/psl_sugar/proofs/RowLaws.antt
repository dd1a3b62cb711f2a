-- The rows of the operators between operands: what each atom of the operands has, each atom of the row has; and how large
-- they are.
use Rattle.std.proofs.Common.{◌≤◌, arith}
use Rattle.psl_sugar.proofs.RangedComparisons.{OperandHas, equality-has, less-has}
use Rattle.psl_sugar.proofs.RangedProperties as properties
use Rattle.psl_sugar.proofs.RangedSequences as sequences
use Rattle.psl_sugar.proofs.VectorSizes.{equality_size, less_size}
use Rattle.psl_sugar.specs.Comparisons.{compared_width, comparison_row}
use Rattle.psl_sugar.specs.Connectives.{boolean_row, formula_row}
use Rattle.psl_sugar.specs.Properties.{until_row, suffix_row, abort_row}
use Rattle.psl_sugar.specs.Sequences.{sequence_row}
use Rattle.psl_sugar.specs.declared.abort.AbortOperator.{AbortOperator}
use Rattle.psl_sugar.specs.declared.abort.AbortOperator.TheVariants as aborts
use Rattle.psl_sugar.specs.declared.comparison.Comparison.{Comparison}
use Rattle.psl_sugar.specs.declared.comparison.Comparison.TheVariants as comparisons
use Rattle.psl_sugar.specs.declared.connectives.Connective.{Connective}
use Rattle.psl_sugar.specs.declared.connectives.Connective.TheVariants as connectives
use Rattle.psl_sugar.specs.declared.operand.Operand.{Operand}
use Rattle.psl_sugar.specs.declared.operator.Strength.{Strength}
use Rattle.psl_sugar.specs.declared.sequence_operators.SequenceOperator.{SequenceOperator}
use Rattle.psl_sugar.specs.declared.sequence_operators.SequenceOperator.TheVariants as operators
use Rattle.psl_sugar.specs.declared.suffix.SuffixOperator.{SuffixOperator}
use Rattle.psl_sugar.specs.declared.suffix.SuffixOperator.TheVariants as suffixes
use Rattle.psl_sugar.specs.declared.until.UntilOperator.{UntilOperator}
use Rattle.psl_sugar.specs.declared.until.UntilOperator.TheVariants as untils
use Rattle.psl_tree.specs.Atoms.{AtomsOfBoolean, AtomsOfSequence, AtomsOfFormula}
use Rattle.psl_tree.specs.Counts.{boolean_size}
use Rattle.psl_tree.specs.Trees.{Boolean, Sequence, Formula}
use Rattle.psl_tree.specs.declared.atom.Atom.{Atom}

module _ (P : Atom → Type 0) where
  pub boolean-row-has : (connective : Connective) (left right : Boolean) → AtomsOfBoolean P left → AtomsOfBoolean P right → AtomsOfBoolean P (boolean_row connective left right)
  boolean-row-has connectives.Conjunction left right h k = (h, k)
  boolean-row-has connectives.Disjunction left right h k = (h, k)
  boolean-row-has connectives.Implication left right h k = (h, k)
  boolean-row-has connectives.Equivalence left right h k = ((h, k), (k, h))

  pub formula-row-has : (connective : Connective) (left right : Formula) → AtomsOfFormula P left → AtomsOfFormula P right → AtomsOfFormula P (formula_row connective left right)
  formula-row-has connectives.Conjunction left right h k = (h, k)
  formula-row-has connectives.Disjunction left right h k = (h, k)
  formula-row-has connectives.Implication left right h k = (h, k)
  formula-row-has connectives.Equivalence left right h k = ((h, k), (k, h))

  pub sequence-row-has : (operator : SequenceOperator) (left right : Sequence) → AtomsOfSequence P left → AtomsOfSequence P right → AtomsOfSequence P (sequence_row operator left right)
  sequence-row-has operators.Concatenation left right h k = (h, k)
  sequence-row-has operators.Fusion left right h k = (h, k)
  sequence-row-has operators.Alternative left right h k = (h, k)
  sequence-row-has operators.SameLength left right h k = (h, k)
  sequence-row-has operators.AnyLength left right h k = sequences.any-length-has P left right h k
  sequence-row-has operators.Within left right h k = sequences.within-has P left right h k

  pub suffix-row-has : (operator : SuffixOperator) (left : Sequence) (right : Formula) → AtomsOfSequence P left → AtomsOfFormula P right → AtomsOfFormula P (suffix_row operator left right)
  suffix-row-has suffixes.Overlapping left right h k = (h, k)
  suffix-row-has suffixes.Next left right h k = ((h, tt), k)

  pub abort-row-has : (operator : AbortOperator) (left : Formula) (right : Boolean) → AtomsOfFormula P left → AtomsOfBoolean P right → AtomsOfFormula P (abort_row operator left right)
  abort-row-has aborts.Asynchronous left right h k = (h, k)
  abort-row-has aborts.Synchronous left right h k = (h, k)

  pub until-row-has : (operator : UntilOperator) (strength : Strength) (left right : Formula) → AtomsOfFormula P left → AtomsOfFormula P right
      → AtomsOfFormula P (until_row operator strength left right)
  until-row-has untils.Until strength left right h k = properties.until-has P strength left right h k
  until-row-has untils.UntilOverlap strength left right h k = properties.until-overlapping-has P strength left right h k
  until-row-has untils.Before strength left right h k = properties.before-has P strength left right h k
  until-row-has untils.BeforeOverlap strength left right h k = properties.before-overlapping-has P strength left right h k

  -- of two sides whose bits have P
  pub comparison-row-has : (comparison : Comparison) (left right : Operand) → OperandHas P left → OperandHas P right → AtomsOfBoolean P (comparison_row comparison left right)
  comparison-row-has comparisons.Equal left right h k = equality-has P left right h k
  comparison-row-has comparisons.Unequal left right h k = equality-has P left right h k
  comparison-row-has comparisons.Less left right h k = less-has P left right h k
  comparison-row-has comparisons.LessEqual left right h k = less-has P right left k h
  comparison-row-has comparisons.Greater left right h k = less-has P right left k h
  comparison-row-has comparisons.GreaterEqual left right h k = less-has P left right h k

-- a comparison has at least as many constructors as its wider side has bits
pub comparison-size : (comparison : Comparison) (left right : Operand) → compared_width left right ≤ boolean_size (comparison_row comparison left right)
comparison-size comparisons.Equal left right = equality_size left right
comparison-size comparisons.Unequal left right = omega (arith, equality_size left right)
comparison-size comparisons.Less left right = less_size left right
comparison-size comparisons.LessEqual left right = omega (arith, less_size right left)
comparison-size comparisons.Greater left right = omega (arith, less_size right left)
comparison-size comparisons.GreaterEqual left right = omega (arith, less_size left right)
