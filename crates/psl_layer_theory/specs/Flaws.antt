-- The faults of kinds and names, each a list of all that stand somewhere (IEEE 1850, clauses 5 to 7).
use Rattle.std.specs.Prelude.{ℕ, Bool as Truth, true, false, not, ◌&&◌, ◌||◌, ◌==◌, ◌^◌, nat_lt, nat_le, List, [], ◌∷◌, ◌++◌, length, Option, None, Some, if◌then◌else◌}
use Rattle.std.specs.List.{list_any}
use Rattle.std.specs.Option.{is_some, is_none}
use Rattle.psl_base.specs.declared.place.Place.{Place}
use Rattle.psl_lexer.specs.declared.kind.TokenKind.{TokenKind}
use Rattle.psl_lexer.specs.declared.kind.TokenKind.TheVariants as kinds
use Rattle.psl_lexer.specs.declared.token.Token.{Token}
use Rattle.psl_grammar.specs.declared.tree.Count as code_count
use Rattle.psl_grammar.specs.declared.tree.Count.TheVariants as counts
use Rattle.psl_grammar.specs.declared.tree.Expression as code_expression
use Rattle.psl_grammar.specs.declared.tree.Expression.TheVariants as expressions
use Rattle.psl_grammar.specs.declared.tree.Statement as code_statement
use Rattle.psl_grammar.specs.declared.tree.Statement.TheVariants as statements
use Rattle.psl_grammar.specs.declared.tree.UnitTree as code_tree
use Rattle.psl_grammar.specs.declared.tree.UnitTree.TheVariants as trees
use Rattle.psl_grammar.specs.declared.tree.VerificationUnit.{VerificationUnit}
use Rattle.psl_tree.specs.declared.directive.Kind as directive_kind
use Rattle.psl_tree.specs.declared.directive.Kind.TheVariants as directives
use Rattle.psl_tree.specs.declared.name.Name.{Name}
use Rattle.psl_layer_theory.specs.declared.fault.Cause.{Cause}
use Rattle.psl_layer_theory.specs.declared.fault.Cause.TheVariants as causes
use Rattle.psl_layer_theory.specs.declared.fault.Flaw.{Flaw}
use Rattle.psl_layer_theory.specs.declared.found.Reference.{Reference}
use Rattle.psl_layer_theory.specs.declared.found.Reference.TheVariants as references
use Rattle.psl_layer_theory.specs.declared.found.Side.{Side}
use Rattle.psl_layer_theory.specs.declared.found.Side.TheVariants.{Bits, Value, Neither}
use Rattle.psl_layer_theory.specs.declared.kind.ExpressionKind.{ExpressionKind}
use Rattle.psl_layer_theory.specs.declared.kind.ExpressionKind.TheVariants.{Boolean, Property}
use Rattle.psl_layer_theory.specs.declared.operator.DeclarationWord.{DeclarationWord}
use Rattle.psl_layer_theory.specs.declared.operator.DeclarationWord.TheVariants as declarations
use Rattle.psl_layer_theory.specs.declared.operator.InfixOperator.{InfixOperator}
use Rattle.psl_layer_theory.specs.declared.operator.InfixOperator.TheVariants as operators
use Rattle.psl_layer_theory.specs.declared.operator.PrefixOperator.{PrefixOperator}
use Rattle.psl_layer_theory.specs.declared.operator.PrefixOperator.TheVariants as prefixes
use Rattle.psl_layer_theory.specs.declared.operator.RepetitionOperator.{RepetitionOperator}
use Rattle.psl_layer_theory.specs.declared.operator.RepetitionOperator.TheVariants as repetitions
use Rattle.psl_layer_theory.specs.Kinds.{declared_as, path_place, place_of, operator_before, kind_of}
use Rattle.psl_layer_theory.specs.References.{reference}
use Rattle.psl_layer_theory.specs.Operators.{prefix_operator, repetition_operator, directive_kind_of, declaration_word, is_endless}
use Rattle.psl_layer_theory.specs.Texts.{path_text, number_of, literal_value}

-- a fault at a place where a test passes
abbrev pub flaw_where : Truth → Cause → Place → List Flaw
flaw_where true cause place = record { place = place; cause = cause } ∷ []
flaw_where false cause place = []

-- a Boolean is wanted: any other kind is a fault
abbrev pub wants_boolean : ExpressionKind → Place → List Flaw
wants_boolean Boolean place = []
wants_boolean _ place = flaw_where true causes.Kind place

-- a sequence is wanted: a property is a fault
abbrev pub wants_sequence : ExpressionKind → Place → List Flaw
wants_sequence Property place = flaw_where true causes.Kind place
wants_sequence _ place = []

-- an operator before its operand: in a sere the operand of `!` is Boolean
abbrev pub prefix_flaws : Truth → PrefixOperator → ExpressionKind → Place → List Flaw
prefix_flaws true prefixes.Not kind place = wants_boolean kind place
prefix_flaws _ _ kind place = []

-- the operands of a connective in a sere are Boolean
abbrev pub logical_flaws : Truth → ExpressionKind → Place → ExpressionKind → Place → List Flaw
logical_flaws true left left_place right right_place = wants_boolean left left_place ++ wants_boolean right right_place
logical_flaws false left left_place right right_place = []

-- the elements of a sere are no properties
abbrev pub element_flaws : ExpressionKind → Place → ExpressionKind → Place → List Flaw
element_flaws left left_place right right_place = wants_sequence left left_place ++ wants_sequence right right_place

-- an operator between operands that is no comparison
abbrev pub infix_flaws : Truth → InfixOperator → ExpressionKind → Place → ExpressionKind → Place → List Flaw
infix_flaws in_sere (operators.Connective connective) left left_place right right_place = logical_flaws in_sere left left_place right right_place
infix_flaws in_sere (operators.Comparison comparison) left left_place right right_place = []
infix_flaws in_sere (operators.Sequence operator) left left_place right right_place = element_flaws left left_place right right_place
infix_flaws in_sere (operators.Suffix operator) left left_place right right_place = wants_sequence left left_place
infix_flaws in_sere (operators.Abort operator) left left_place right right_place = wants_boolean right right_place
infix_flaws in_sere (operators.Until operator) left left_place right right_place = []

-- a path stands for a declared sequence or property
abbrev pub is_declared : List code_statement.Statement → List Token → Truth
is_declared scope path = is_some (declared_as scope (path_text path))

-- what a path that is no declared name stands for; a declared name with an index stands for no signal
abbrev pub refers_in : List code_statement.Statement → List Name → List Token → Option Token → Reference
refers_in scope names path index = if is_declared scope path then references.Nothing else reference names path index

-- a path that stands for nothing, or for several signals or ranges
abbrev pub reference_flaws : Reference → Place → List Flaw
reference_flaws references.Nothing place = flaw_where true causes.UnknownName place
reference_flaws references.Several place = flaw_where true causes.Ambiguous place
reference_flaws (references.Bits bits) place = []

-- a path, perhaps with an index
abbrev pub signal_flaws : List code_statement.Statement → List Name → List Token → Option Token → List Flaw
signal_flaws scope names path index =
    if is_declared scope path && is_none index then [] else reference_flaws (refers_in scope names path index) (path_place path)

-- an edge of more than one bit
abbrev pub width_flaws : Reference → Place → List Flaw
width_flaws references.Nothing place = []
width_flaws references.Several place = []
width_flaws (references.Bits bits) place = flaw_where (not (length bits == 1)) causes.Kind place

-- an edge: its path stands for one bit, and not for a sequence or a property
abbrev pub edge_flaws : List code_statement.Statement → List Name → List Token → Option Token → List Flaw
edge_flaws scope names path index =
    if is_declared scope path && is_none index
    then flaw_where true causes.Kind (path_place path)
    else reference_flaws (refers_in scope names path index) (path_place path) ++ width_flaws (refers_in scope names path index) (path_place path)

-- a number or a constant, by the kind of its token; `true` and `false` are neither
abbrev pub literal_side : TokenKind → Token → Side
literal_side kinds.Number token = Value (literal_value token) token.place
literal_side kinds.Constant token = Value (literal_value token) token.place
literal_side _ token = Neither

-- how many bits a path has, where these are known
abbrev pub width_in : Reference → Option ℕ
width_in references.Nothing = None
width_in references.Several = None
width_in (references.Bits bits) = Some (length bits)

-- a path: a declared sequence or property is no signal
abbrev pub signal_side : List code_statement.Statement → List Name → List Token → Option Token → Side
signal_side scope names path index =
    if is_declared scope path && is_none index then Neither else Bits (width_in (refers_in scope names path index))

-- one side of a comparison
abbrev pub side_of : List code_statement.Statement → List Name → code_expression.Expression → Side
side_of scope names (expressions.Signal path index) = signal_side scope names path index
side_of scope names (expressions.Literal token) = literal_side token.kind token
side_of scope names _ = Neither

-- a value needs more bits than there are; nothing is asked where the bits are not known
abbrev pub value_flaws : Option ℕ → ℕ → Place → List Flaw
value_flaws None value place = []
value_flaws (Some width) value place = flaw_where (nat_le (2 ^ width) value) causes.ConstantTooWide place

-- a comparison has a signal on one side at least, and a signal or a value on the other; else the fault is at the first token
-- of its left operand
abbrev pub side_flaws : Side → Side → Place → List Flaw
side_flaws (Bits left) (Bits right) left_place = []
side_flaws (Bits width) (Value value place) left_place = value_flaws width value place
side_flaws (Value value place) (Bits width) left_place = value_flaws width value place
side_flaws _ _ left_place = flaw_where true causes.Kind left_place

abbrev pub is_comparison : InfixOperator → Truth
is_comparison (operators.Comparison comparison) = true
is_comparison _ = false

-- what a repetition asks of its operand: `[->` and `[=` a Boolean, the others a sequence
abbrev pub repeated_flaws : RepetitionOperator → ExpressionKind → Place → List Flaw
repeated_flaws repetitions.Goto kind place = wants_boolean kind place
repeated_flaws repetitions.Occurrences kind place = wants_boolean kind place
repeated_flaws repetitions.Star kind place = wants_sequence kind place
repeated_flaws repetitions.Plus kind place = wants_sequence kind place

-- a clock's operand: in a sere it is no property
abbrev pub clocked_flaws : Truth → ExpressionKind → Place → List Flaw
clocked_flaws true kind place = wants_sequence kind place
clocked_flaws false kind place = []

-- in round brackets: in a sere it is Boolean
abbrev pub grouped_flaws : Truth → ExpressionKind → Place → List Flaw
grouped_flaws true kind place = wants_boolean kind place
grouped_flaws false kind place = []

-- the second number of a range is below the first
abbrev pub falls : Token → Token → Truth
falls low high = not (is_endless high.kind) && nat_lt (number_of high) (number_of low)

-- an empty range, at its first number; a count from 1 on begins at no 0
abbrev pub count_flaws : Truth → Option code_count.Count → List Flaw
count_flaws from_one None = []
count_flaws from_one (Some (counts.Times number)) = flaw_where (from_one && number_of number == 0) causes.EmptyRange number.place
count_flaws from_one (Some (counts.Between low high)) = flaw_where ((from_one && number_of low == 0) || falls low high) causes.EmptyRange low.place

-- a repetition that counts from 1 on
abbrev pub is_goto : RepetitionOperator → Truth
is_goto repetitions.Goto = true
is_goto _ = false

-- All faults of an expression, after the statements before it in its list, in a sere or outside of one.
abbrev pub expression_flaws : List code_statement.Statement → List Name → Truth → code_expression.Expression → List Flaw
expression_flaws scope names in_sere (expressions.Prefix' operator _ x) =
    expression_flaws scope names in_sere x
    ++ prefix_flaws in_sere (prefix_operator operator.kind) (kind_of scope in_sere x) (place_of x)
expression_flaws scope names in_sere (expressions.Infix' _ x operator _ y) =
    expression_flaws scope names in_sere x
    ++ expression_flaws scope names in_sere y
    ++ (if is_comparison (operator_before in_sere operator.kind y)
    then side_flaws (side_of scope names x) (side_of scope names y) (place_of x)
    else infix_flaws in_sere (operator_before in_sere operator.kind y) (kind_of scope in_sere x) (place_of x) (kind_of scope in_sere y) (place_of y))
expression_flaws scope names in_sere (expressions.Postfix' _ x operator) =
    expression_flaws scope names in_sere x ++ wants_sequence (kind_of scope in_sere x) (place_of x)
expression_flaws scope names in_sere (expressions.Repeated' _ x opening count) =
    expression_flaws scope names in_sere x
    ++ repeated_flaws (repetition_operator opening.kind) (kind_of scope in_sere x) (place_of x)
    ++ count_flaws (is_goto (repetition_operator opening.kind)) count
expression_flaws scope names in_sere (expressions.Clocked' _ x at _ clock) =
    expression_flaws scope names in_sere x
    ++ expression_flaws scope names false clock
    ++ clocked_flaws in_sere (kind_of scope in_sere x) (place_of x)
    ++ wants_boolean (kind_of scope false clock) (place_of clock)
expression_flaws scope names in_sere (expressions.Grouped' opening _ x) =
    expression_flaws scope names false x ++ grouped_flaws in_sere (kind_of scope false x) opening.place
expression_flaws scope names in_sere (expressions.Braced' opening _ x) =
    expression_flaws scope names true x ++ wants_sequence (kind_of scope true x) (place_of x)
expression_flaws scope names in_sere (expressions.Repetition opening count) =
    count_flaws (is_goto (repetition_operator opening.kind)) count
expression_flaws scope names in_sere (expressions.Literal token) = []
expression_flaws scope names in_sere (expressions.Signal path index) = signal_flaws scope names path index
expression_flaws scope names in_sere (expressions.Edge edge path index) = edge_flaws scope names path index
expression_flaws scope names in_sere (expressions.NextTimes' word count _ x) =
    expression_flaws scope names false x ++ count_flaws true (Some count)
expression_flaws scope names in_sere (expressions.NextEvent' word _ condition count _ x) =
    expression_flaws scope names false condition
    ++ expression_flaws scope names false x
    ++ wants_boolean (kind_of scope false condition) (place_of condition)
    ++ count_flaws true count

-- a directive: the operand of `cover` is no property
abbrev pub directive_flaws : directive_kind.Kind → ExpressionKind → Place → List Flaw
directive_flaws directives.Cover kind place = wants_sequence kind place
directive_flaws directives.Assert kind place = []
directive_flaws directives.Assume kind place = []

-- a declaration of the default clock
abbrev pub is_clock : DeclarationWord → Truth
is_clock declarations.DefaultClock = true
is_clock _ = false

-- a statement declares the default clock
abbrev pub declares_clock : code_statement.Statement → Truth
declares_clock (statements.Directive label word property report) = false
declares_clock (statements.Declaration word name body) = is_clock (declaration_word word.kind)

-- a name that an earlier statement declares
abbrev pub twice_flaws : List code_statement.Statement → Token → List Flaw
twice_flaws scope name = flaw_where (is_some (declared_as scope name.text)) causes.DeclaredTwice name.place

-- a declaration: by its word, its token `default` or its name, and the kind and the place of what is declared
abbrev pub declaration_flaws : List code_statement.Statement → DeclarationWord → Token → Token → ExpressionKind → Place → List Flaw
declaration_flaws scope declarations.Sequence word name kind place = twice_flaws scope name ++ wants_sequence kind place
declaration_flaws scope declarations.Property word name kind place = twice_flaws scope name
declaration_flaws scope declarations.DefaultClock word name kind place =
    flaw_where (list_any declares_clock scope) causes.DeclaredTwice word.place ++ wants_boolean kind place

-- all faults of a statement, after the statements before it in its list
abbrev pub statement_flaws : List code_statement.Statement → List Name → code_statement.Statement → List Flaw
statement_flaws scope names (statements.Directive label word property report) =
    expression_flaws scope names false property
    ++ directive_flaws (directive_kind_of word.kind) (kind_of scope false property) (place_of property)
statement_flaws scope names (statements.Declaration word name body) =
    expression_flaws scope names false body
    ++ declaration_flaws scope (declaration_word word.kind) word name (kind_of scope false body) (place_of body)

-- all faults of statements, after the statements before them in their list
abbrev pub statements_flaws : List code_statement.Statement → List Name → List code_statement.Statement → List Flaw
statements_flaws scope names [] = []
statements_flaws scope names (statement ∷ more) =
    statement_flaws scope names statement ++ statements_flaws (scope ++ statement ∷ []) names more

-- all faults of verification units; each has its own list of statements
abbrev pub units_flaws : List Name → List VerificationUnit → List Flaw
units_flaws names [] = []
units_flaws names (unit ∷ more) = statements_flaws [] names unit.statements ++ units_flaws names more

-- all faults of a text
abbrev pub tree_flaws : List Name → code_tree.UnitTree → List Flaw
tree_flaws names (trees.Units units) = units_flaws names units
tree_flaws names (trees.Statements all) = statements_flaws [] names all
