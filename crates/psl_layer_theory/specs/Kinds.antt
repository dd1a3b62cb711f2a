-- What kind an expression is of: a Boolean, a sequence or a property (IEEE 1850, clauses 5 and 6).
use Rattle.std.specs.Prelude.{Bool as Truth, true, false, ◌&&◌, ℕ, List, [], ◌∷◌, Option, None, Some, if◌then◌else◌}
use Rattle.std.specs.Option.{option_or, unwrap_or}
use Rattle.std.specs.Str.{bytes_eq}
use Rattle.psl_base.specs.declared.place.Place.{Place}
use Rattle.psl_lexer.specs.declared.kind.TokenKind.{TokenKind}
use Rattle.psl_lexer.specs.declared.token.Token.{Token}
use Rattle.psl_grammar.specs.declared.tree.Expression as code_expression
use Rattle.psl_grammar.specs.declared.tree.Expression.TheVariants as expressions
use Rattle.psl_grammar.specs.declared.tree.Statement as code_statement
use Rattle.psl_grammar.specs.declared.tree.Statement.TheVariants as statements
use Rattle.psl_sugar.specs.declared.connectives.Connective.TheVariants as connectives
use Rattle.psl_sugar.specs.declared.sequence_operators.SequenceOperator.TheVariants as sequences
use Rattle.psl_layer_theory.specs.declared.kind.ExpressionKind.{ExpressionKind}
use Rattle.psl_layer_theory.specs.declared.kind.ExpressionKind.TheVariants.{Boolean, Sequence, Property}
use Rattle.psl_layer_theory.specs.declared.operator.DeclarationWord.{DeclarationWord}
use Rattle.psl_layer_theory.specs.declared.operator.DeclarationWord.TheVariants as declarations
use Rattle.psl_layer_theory.specs.declared.operator.InfixOperator.{InfixOperator}
use Rattle.psl_layer_theory.specs.declared.operator.InfixOperator.TheVariants as operators
use Rattle.psl_layer_theory.specs.declared.operator.PrefixOperator.{PrefixOperator}
use Rattle.psl_layer_theory.specs.declared.operator.PrefixOperator.TheVariants as prefixes
use Rattle.psl_layer_theory.specs.Operators.{prefix_operator, infix_operator, declaration_word}
use Rattle.psl_layer_theory.specs.Texts.{path_text}

-- the kind of what a declaration's word declares
abbrev pub declared_kind : DeclarationWord → Option ExpressionKind
declared_kind declarations.Sequence = Some Sequence
declared_kind declarations.Property = Some Property
declared_kind declarations.DefaultClock = None

-- the kind of a text, if a statement declares it as a sequence or a property
abbrev pub kind_declared_by : List ℕ → code_statement.Statement → Option ExpressionKind
kind_declared_by text (statements.Directive label word property report) = None
kind_declared_by text (statements.Declaration word name body) =
    if bytes_eq name.text text then declared_kind (declaration_word word.kind) else None

-- the kind of a text, if some of the statements declares it; the first of them counts
abbrev pub declared_as : List code_statement.Statement → List ℕ → Option ExpressionKind
declared_as [] text = None
declared_as (statement ∷ more) text = option_or (kind_declared_by text statement) (declared_as more text)

-- the place of a path's first name; a path has at least one
abbrev pub path_place : List Token → Place
path_place [] = record { line = 1; column = 1 }
path_place (name ∷ _) = name.place

-- the place of an expression's first token
abbrev pub place_of : code_expression.Expression → Place
place_of (expressions.Prefix' operator _ x) = operator.place
place_of (expressions.Infix' _ x operator _ y) = place_of x
place_of (expressions.Postfix' _ x operator) = place_of x
place_of (expressions.Repeated' _ x opening count) = place_of x
place_of (expressions.Clocked' _ x at _ clock) = place_of x
place_of (expressions.Grouped' opening _ x) = opening.place
place_of (expressions.Braced' opening _ x) = opening.place
place_of (expressions.Repetition opening count) = opening.place
place_of (expressions.Literal token) = token.place
place_of (expressions.Signal path index) = path_place path
place_of (expressions.Edge edge path index) = edge.place
place_of (expressions.NextTimes' word count _ x) = word.place
place_of (expressions.NextEvent' word _ condition count _ x) = word.place

-- an operator of sequences alone, whose operands are repeated, clocked or in braces
abbrev pub is_within : InfixOperator → Truth
is_within (operators.Sequence sequences.Within) = true
is_within _ = false

-- What may stand behind an operator of sequences alone: something in braces, repeated, clocked, or a `within`. In a
-- sere `&&` before one of these is the operator of sequences, and else that of Booleans.
abbrev pub is_part : code_expression.Expression → Truth
is_part (expressions.Repeated' _ x opening count) = true
is_part (expressions.Clocked' _ x at _ clock) = true
is_part (expressions.Braced' opening _ x) = true
is_part (expressions.Repetition opening count) = true
is_part (expressions.Infix' _ x operator _ y) = is_within (infix_operator operator.kind)
is_part _ = false

-- the operator of sequences alone that `&&` is before a part of a sere
abbrev pub before_part : InfixOperator → InfixOperator
before_part (operators.Connective connectives.Conjunction) = operators.Sequence sequences.SameLength
before_part operator = operator

-- the operator that a token is, in a sere or outside of one, before its right operand
abbrev pub operator_before : Truth → TokenKind → code_expression.Expression → InfixOperator
operator_before in_sere kind right =
    if in_sere && is_part right then before_part (infix_operator kind) else infix_operator kind

-- anything combined in a sere, and outside of one
abbrev pub combined : Truth → ExpressionKind
combined true = Sequence
combined false = Property

-- an operator before an operand: `!` of a Boolean is one
abbrev pub prefix_kind : Truth → PrefixOperator → ExpressionKind → ExpressionKind
prefix_kind in_sere prefixes.Not Boolean = Boolean
prefix_kind in_sere prefixes.Not _ = combined in_sere
prefix_kind in_sere _ _ = Property

-- an operator of Booleans and of properties: with both operands Boolean it gives a Boolean
abbrev pub logical_kind : Truth → ExpressionKind → ExpressionKind → ExpressionKind
logical_kind in_sere Boolean Boolean = Boolean
logical_kind in_sere _ _ = combined in_sere

-- an operator between operands
abbrev pub infix_kind : Truth → InfixOperator → ExpressionKind → ExpressionKind → ExpressionKind
infix_kind in_sere (operators.Connective connective) left right = logical_kind in_sere left right
infix_kind in_sere (operators.Comparison comparison) left right = Boolean
infix_kind in_sere (operators.Sequence operator) left right = Sequence
infix_kind in_sere (operators.Suffix operator) left right = Property
infix_kind in_sere (operators.Abort operator) left right = Property
infix_kind in_sere (operators.Until operator) left right = Property

-- `e @ c` in a sere and outside of one
abbrev pub clocked_kind : Truth → ExpressionKind → ExpressionKind
clocked_kind true kind = Sequence
clocked_kind false Sequence = Sequence
clocked_kind false _ = Property

-- in round brackets
abbrev pub grouped_kind : ExpressionKind → ExpressionKind
grouped_kind Boolean = Boolean
grouped_kind _ = Property

-- a path by what it is declared as: a declared name without an index, or else a signal; with an index it counts as a signal
abbrev pub kind_as : Option ExpressionKind → Option Token → ExpressionKind
kind_as declared None = unwrap_or declared Boolean
kind_as declared (Some index) = Boolean

-- a path
abbrev pub signal_kind : List code_statement.Statement → List Token → Option Token → ExpressionKind
signal_kind scope path index = kind_as (declared_as scope (path_text path)) index

-- the kind of an expression, after the statements before it in its list, in a sere or outside of one
abbrev pub kind_of : List code_statement.Statement → Truth → code_expression.Expression → ExpressionKind
kind_of scope in_sere (expressions.Prefix' operator _ x) =
    prefix_kind in_sere (prefix_operator operator.kind) (kind_of scope in_sere x)
kind_of scope in_sere (expressions.Infix' _ x operator _ y) =
    infix_kind in_sere (operator_before in_sere operator.kind y) (kind_of scope in_sere x) (kind_of scope in_sere y)
kind_of scope in_sere (expressions.Postfix' _ x operator) = Property
kind_of scope in_sere (expressions.Repeated' _ x opening count) = Sequence
kind_of scope in_sere (expressions.Clocked' _ x at _ clock) = clocked_kind in_sere (kind_of scope in_sere x)
kind_of scope in_sere (expressions.Grouped' opening _ x) = grouped_kind (kind_of scope false x)
kind_of scope in_sere (expressions.Braced' opening _ x) = Sequence
kind_of scope in_sere (expressions.Repetition opening count) = Sequence
kind_of scope in_sere (expressions.Literal token) = Boolean
kind_of scope in_sere (expressions.Signal path index) = signal_kind scope path index
kind_of scope in_sere (expressions.Edge edge path index) = Boolean
kind_of scope in_sere (expressions.NextTimes' word count _ x) = Property
kind_of scope in_sere (expressions.NextEvent' word _ condition count _ x) = Property
