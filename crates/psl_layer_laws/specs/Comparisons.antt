-- What a comparison of a text says of a letter.
use Rattle.std.specs.Prelude.{◌≡◌, Bool as Truth, List, [], Box}
use Rattle.std.specs.declared.alloc.Global.{Global}
use Rattle.psl_lexer.specs.declared.token.Token.{Token}
use Rattle.psl_grammar.specs.declared.tree.Expression as code_expression
use Rattle.psl_grammar.specs.declared.tree.Expression.TheVariants as expressions
use Rattle.psl_grammar.specs.declared.tree.Statement as code_statement
use Rattle.psl_tree.specs.Holds.{holds}
use Rattle.psl_tree.specs.declared.atom.Atom.{Atom}
use Rattle.psl_tree.specs.declared.letter.Letter.TheVariants.{Holds}
use Rattle.psl_tree.specs.declared.name.Name.{Name}
use Rattle.psl_sugar.specs.Numbers.{number_on, compares}
use Rattle.psl_sugar.specs.declared.comparison.Comparison.{Comparison}
use Rattle.psl_layer_theory.specs.Flaws.{expression_flaws}
use Rattle.psl_layer_theory.specs.Kernel.{Named, boolean_in, operand_of, meaning_of}
use Rattle.psl_layer_theory.specs.Kinds.{operator_before}
use Rattle.psl_layer_theory.specs.declared.operator.InfixOperator.TheVariants as operators

-- where the program keeps the parts of a tree
abbrev pub Boxed : Type 0
Boxed = Box (Unit {0}) Global

-- On a letter that is neither Top nor Bottom, a comparison of a text that has no fault holds exactly where the numbers of
-- its two sides compare so.
abbrev pub TextsCompareNumbers : Type 0
TextsCompareNumbers =
    (scope : List code_statement.Statement) (named : List Named) (names : List Name) (in_sere : Truth)
    (first second : Boxed) (x y : code_expression.Expression) (operator : Token) (comparison : Comparison) (atoms : List Atom)
    → operator_before in_sere operator.kind y ≡ operators.Comparison comparison
    → expression_flaws scope names in_sere (expressions.Infix' first x operator second y) ≡ []
    → holds (Holds atoms) (boolean_in (meaning_of named names in_sere (expressions.Infix' first x operator second y)))
    ≡ compares comparison (number_on (Holds atoms) (operand_of names x)) (number_on (Holds atoms) (operand_of names y))
