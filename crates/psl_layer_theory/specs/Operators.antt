-- What the words and marks of a tree ask for: a row for each. That each token which the grammar has in such a place has a
-- row is a law (Rows); what stands behind a table is never asked for in a text's tree.
use Rattle.std.specs.Prelude.{Bool as Truth, true, false, Option, None, Some, unwrap_or}
use Rattle.psl_lexer.specs.declared.kind.TokenKind.{TokenKind}
use Rattle.psl_lexer.specs.declared.kind.TokenKind.TheVariants as kinds
use Rattle.psl_tree.specs.declared.atom.Edge as atom_edge
use Rattle.psl_tree.specs.declared.atom.Edge.TheVariants as edges
use Rattle.psl_tree.specs.declared.directive.Kind as directive_kind
use Rattle.psl_tree.specs.declared.directive.Kind.TheVariants as directives
use Rattle.psl_sugar.specs.declared.abort.AbortOperator.TheVariants as aborts
use Rattle.psl_sugar.specs.declared.comparison.Comparison.TheVariants as comparisons
use Rattle.psl_sugar.specs.declared.connectives.Connective.TheVariants as connectives
use Rattle.psl_sugar.specs.declared.sequence_operators.SequenceOperator.TheVariants as sequences
use Rattle.psl_sugar.specs.declared.suffix.SuffixOperator.TheVariants as suffixes
use Rattle.psl_sugar.specs.declared.until.UntilOperator.TheVariants as untils
use Rattle.psl_sugar.specs.declared.operator.Quantifier.{Quantifier}
use Rattle.psl_sugar.specs.declared.operator.Quantifier.TheVariants as quantifiers
use Rattle.psl_sugar.specs.declared.operator.Strength.{Strength}
use Rattle.psl_sugar.specs.declared.operator.Strength.TheVariants as strengths
use Rattle.psl_layer_theory.specs.declared.operator.DeclarationWord.{DeclarationWord}
use Rattle.psl_layer_theory.specs.declared.operator.DeclarationWord.TheVariants as declarations
use Rattle.psl_layer_theory.specs.declared.operator.InfixOperator.{InfixOperator}
use Rattle.psl_layer_theory.specs.declared.operator.InfixOperator.TheVariants as infix_operators
use Rattle.psl_layer_theory.specs.declared.operator.PrefixOperator.{PrefixOperator}
use Rattle.psl_layer_theory.specs.declared.operator.PrefixOperator.TheVariants as prefix_operators
use Rattle.psl_layer_theory.specs.declared.operator.RepetitionOperator.{RepetitionOperator}
use Rattle.psl_layer_theory.specs.declared.operator.RepetitionOperator.TheVariants as repetitions

-- an operator before its operand
abbrev pub prefix_row : TokenKind → Option PrefixOperator
prefix_row kinds.Not = Some prefix_operators.Not
prefix_row kinds.Always = Some prefix_operators.Always
prefix_row kinds.Never = Some prefix_operators.Never
prefix_row kinds.Next = Some prefix_operators.Next
prefix_row kinds.NextStrong = Some prefix_operators.Next
prefix_row kinds.EventuallyStrong = Some prefix_operators.Eventually
prefix_row _ = None

abbrev pub prefix_operator : TokenKind → PrefixOperator
prefix_operator kind = unwrap_or (prefix_row kind) prefix_operators.Next

-- an operator between its operands; `&&` of sequences is told apart where the operands are at hand
abbrev pub infix_row : TokenKind → Option InfixOperator
infix_row kinds.AndAnd = Some (infix_operators.Connective connectives.Conjunction)
infix_row kinds.OrOr = Some (infix_operators.Connective connectives.Disjunction)
infix_row kinds.Arrow = Some (infix_operators.Connective connectives.Implication)
infix_row kinds.Iff = Some (infix_operators.Connective connectives.Equivalence)
infix_row kinds.EqualEqual = Some (infix_operators.Comparison comparisons.Equal)
infix_row kinds.NotEqual = Some (infix_operators.Comparison comparisons.Unequal)
infix_row kinds.Less = Some (infix_operators.Comparison comparisons.Less)
infix_row kinds.LessEqual = Some (infix_operators.Comparison comparisons.LessEqual)
infix_row kinds.Greater = Some (infix_operators.Comparison comparisons.Greater)
infix_row kinds.GreaterEqual = Some (infix_operators.Comparison comparisons.GreaterEqual)
infix_row kinds.Semicolon = Some (infix_operators.Sequence sequences.Concatenation)
infix_row kinds.Colon = Some (infix_operators.Sequence sequences.Fusion)
infix_row kinds.Bar = Some (infix_operators.Sequence sequences.Alternative)
infix_row kinds.Ampersand = Some (infix_operators.Sequence sequences.AnyLength)
infix_row kinds.Within = Some (infix_operators.Sequence sequences.Within)
infix_row kinds.Implies = Some (infix_operators.Suffix suffixes.Overlapping)
infix_row kinds.ImpliesNext = Some (infix_operators.Suffix suffixes.Next)
infix_row kinds.Abort = Some (infix_operators.Abort aborts.Asynchronous)
infix_row kinds.AsyncAbort = Some (infix_operators.Abort aborts.Asynchronous)
infix_row kinds.SyncAbort = Some (infix_operators.Abort aborts.Synchronous)
infix_row kinds.Until = Some (infix_operators.Until untils.Until)
infix_row kinds.UntilStrong = Some (infix_operators.Until untils.Until)
infix_row kinds.UntilOverlap = Some (infix_operators.Until untils.UntilOverlap)
infix_row kinds.UntilStrongOverlap = Some (infix_operators.Until untils.UntilOverlap)
infix_row kinds.Before = Some (infix_operators.Until untils.Before)
infix_row kinds.BeforeStrong = Some (infix_operators.Until untils.Before)
infix_row kinds.BeforeOverlap = Some (infix_operators.Until untils.BeforeOverlap)
infix_row kinds.BeforeStrongOverlap = Some (infix_operators.Until untils.BeforeOverlap)
infix_row _ = None

abbrev pub infix_operator : TokenKind → InfixOperator
infix_operator kind = unwrap_or (infix_row kind) (infix_operators.Connective connectives.Conjunction)

-- what opens a repetition
abbrev pub repetition_row : TokenKind → Option RepetitionOperator
repetition_row kinds.StarOpen = Some repetitions.Star
repetition_row kinds.PlusRepeat = Some repetitions.Plus
repetition_row kinds.GotoOpen = Some repetitions.Goto
repetition_row kinds.EqualsOpen = Some repetitions.Occurrences
repetition_row _ = None

abbrev pub repetition_operator : TokenKind → RepetitionOperator
repetition_operator kind = unwrap_or (repetition_row kind) repetitions.Star

-- whether an operator is strong: its word has a `!`
abbrev pub strength_row : TokenKind → Option Strength
strength_row kinds.Next = Some strengths.Weak
strength_row kinds.NextStrong = Some strengths.Strong
strength_row kinds.NextA = Some strengths.Weak
strength_row kinds.NextAStrong = Some strengths.Strong
strength_row kinds.NextE = Some strengths.Weak
strength_row kinds.NextEStrong = Some strengths.Strong
strength_row kinds.NextEvent = Some strengths.Weak
strength_row kinds.NextEventStrong = Some strengths.Strong
strength_row kinds.NextEventA = Some strengths.Weak
strength_row kinds.NextEventAStrong = Some strengths.Strong
strength_row kinds.NextEventE = Some strengths.Weak
strength_row kinds.NextEventEStrong = Some strengths.Strong
strength_row kinds.Until = Some strengths.Weak
strength_row kinds.UntilStrong = Some strengths.Strong
strength_row kinds.UntilOverlap = Some strengths.Weak
strength_row kinds.UntilStrongOverlap = Some strengths.Strong
strength_row kinds.Before = Some strengths.Weak
strength_row kinds.BeforeStrong = Some strengths.Strong
strength_row kinds.BeforeOverlap = Some strengths.Weak
strength_row kinds.BeforeStrongOverlap = Some strengths.Strong
strength_row _ = None

abbrev pub strength_of : TokenKind → Strength
strength_of kind = unwrap_or (strength_row kind) strengths.Weak

-- which numbers of its range a next form asks for: some where its word has `_e`, else all
abbrev pub quantifier_row : TokenKind → Option Quantifier
quantifier_row kinds.NextA = Some quantifiers.All
quantifier_row kinds.NextAStrong = Some quantifiers.All
quantifier_row kinds.NextE = Some quantifiers.Exists
quantifier_row kinds.NextEStrong = Some quantifiers.Exists
quantifier_row kinds.NextEventA = Some quantifiers.All
quantifier_row kinds.NextEventAStrong = Some quantifiers.All
quantifier_row kinds.NextEventE = Some quantifiers.Exists
quantifier_row kinds.NextEventEStrong = Some quantifiers.Exists
quantifier_row _ = None

abbrev pub quantifier_of : TokenKind → Quantifier
quantifier_of kind = unwrap_or (quantifier_row kind) quantifiers.All

-- which edge is asked for
abbrev pub edge_row : TokenKind → Option atom_edge.Edge
edge_row kinds.Posedge = Some edges.Rise
edge_row kinds.Negedge = Some edges.Fall
edge_row _ = None

abbrev pub edge_of : TokenKind → atom_edge.Edge
edge_of kind = unwrap_or (edge_row kind) edges.Rise

-- what a directive asks for
abbrev pub directive_row : TokenKind → Option directive_kind.Kind
directive_row kinds.Assert = Some directives.Assert
directive_row kinds.Assume = Some directives.Assume
directive_row kinds.Cover = Some directives.Cover
directive_row _ = None

abbrev pub directive_kind_of : TokenKind → directive_kind.Kind
directive_kind_of kind = unwrap_or (directive_row kind) directives.Assert

-- what a declaration declares
abbrev pub declaration_row : TokenKind → Option DeclarationWord
declaration_row kinds.Sequence = Some declarations.Sequence
declaration_row kinds.Property = Some declarations.Property
declaration_row kinds.Default = Some declarations.DefaultClock
declaration_row _ = None

abbrev pub declaration_word : TokenKind → DeclarationWord
declaration_word kind = unwrap_or (declaration_row kind) declarations.DefaultClock

-- whether a count's second token is `inf`
abbrev pub is_endless : TokenKind → Truth
is_endless kinds.Inf = true
is_endless _ = false
