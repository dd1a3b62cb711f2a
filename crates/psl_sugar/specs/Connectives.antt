-- Operators that Booleans and properties have alike: a row for each (IEEE 1850, clauses 5 and 6.2).
use Rattle.psl_tree.specs.Trees.{Boolean, Formula, And, Or}
use Rattle.psl_tree.specs.Sugar.{disjunction, implication}
use Rattle.psl_sugar.specs.Booleans.{boolean_implication, boolean_iff}
use Rattle.psl_sugar.specs.Properties.{iff}
use Rattle.psl_sugar.specs.declared.connectives.Connective.{Connective}
use Rattle.psl_sugar.specs.declared.connectives.Connective.TheVariants as connectives

-- on Booleans
abbrev pub boolean_row : Connective → Boolean → Boolean → Boolean
boolean_row connectives.Conjunction left right = And left right
boolean_row connectives.Disjunction left right = Or left right
boolean_row connectives.Implication left right = boolean_implication left right
boolean_row connectives.Equivalence left right = boolean_iff left right

-- on properties
abbrev pub formula_row : Connective → Formula → Formula → Formula
formula_row connectives.Conjunction left right = And left right
formula_row connectives.Disjunction left right = disjunction left right
formula_row connectives.Implication left right = implication left right
formula_row connectives.Equivalence left right = iff left right
