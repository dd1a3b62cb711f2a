-- The kernel of a text: what each directive asks, in order (IEEE 1850, clause 7).
use Rattle.std.specs.Prelude.{false, ℕ, List, [], ◌∷◌, ◌++◌, Option, None, Some}
use Rattle.std.specs.Option.{option_or}
use Rattle.psl_base.specs.declared.place.Place.{Place}
use Rattle.psl_lexer.specs.declared.token.Token.{Token}
use Rattle.psl_grammar.specs.declared.tree.Expression as code_expression
use Rattle.psl_grammar.specs.declared.tree.Expression.TheVariants as expressions
use Rattle.psl_grammar.specs.declared.tree.Statement as code_statement
use Rattle.psl_grammar.specs.declared.tree.Statement.TheVariants as statements
use Rattle.psl_grammar.specs.declared.tree.UnitTree as code_tree
use Rattle.psl_grammar.specs.declared.tree.UnitTree.TheVariants as trees
use Rattle.psl_grammar.specs.declared.tree.VerificationUnit.{VerificationUnit}
use Rattle.psl_tree.specs.Trees.{Boolean, Formula}
use Rattle.psl_tree.specs.declared.directive.Kind as directive_kind
use Rattle.psl_tree.specs.declared.directive.Kind.TheVariants as directives
use Rattle.psl_tree.specs.declared.name.Name.{Name}
use Rattle.psl_sugar.specs.Properties.{covered, covered_at}
use Rattle.psl_layer_theory.specs.declared.operator.DeclarationWord.{DeclarationWord}
use Rattle.psl_layer_theory.specs.declared.operator.DeclarationWord.TheVariants as declarations
use Rattle.psl_layer_theory.specs.Kernel.{Meaning, OfSequence, OfProperty, Named, boolean_in, sequence_in, formula_in, clocked_meaning, meaning_of}
use Rattle.psl_layer_theory.specs.Operators.{directive_kind_of, declaration_word}

-- a directive without its number
pub record Asked : Type 0 where
  pub kind : directive_kind.Kind
  pub label : Option (List ℕ)
  -- the place of its word
  pub place : Place
  pub formula : Formula

-- what a declaration adds to the names after it
abbrev pub named_by : DeclarationWord → List ℕ → Meaning → List Named
named_by declarations.Sequence text meaning = record { text = text; meaning = OfSequence (sequence_in meaning) } ∷ []
named_by declarations.Property text meaning = record { text = text; meaning = OfProperty (formula_in meaning) } ∷ []
named_by declarations.DefaultClock text meaning = []

-- what a statement adds to the names after it
abbrev pub declared_by : List Named → List Name → code_statement.Statement → List Named
declared_by scope names (statements.Directive label word property report) = []
declared_by scope names (statements.Declaration word name body) =
    named_by (declaration_word word.kind) name.text (meaning_of scope names false body)

-- the clock that a declaration makes the default one
abbrev pub clock_by : DeclarationWord → Meaning → Option Boolean
clock_by declarations.Sequence meaning = None
clock_by declarations.Property meaning = None
clock_by declarations.DefaultClock meaning = Some (boolean_in meaning)

-- the clock that a statement makes the default one
abbrev pub clock_of : List Named → List Name → code_statement.Statement → Option Boolean
clock_of scope names (statements.Directive label word property report) = None
clock_of scope names (statements.Declaration word name body) =
    clock_by (declaration_word word.kind) (meaning_of scope names false body)

-- The default clock of a list of statements, after the declarations before it. It holds for each directive of the list,
-- those before it included.
abbrev pub default_clock : List Named → List Name → List code_statement.Statement → Option Boolean
default_clock scope names [] = None
default_clock scope names (statement ∷ more) =
    option_or (clock_of scope names statement) (default_clock (scope ++ declared_by scope names statement) names more)

-- what a directive asks under the default clock, if there is one
abbrev pub under_clock : Option Boolean → Meaning → Formula
under_clock None meaning = formula_in meaning
under_clock (Some clock) meaning = formula_in (clocked_meaning meaning clock)

-- `assert` and `assume`: the formula itself; the default clock is put on one that is not of the form `e @ d`
abbrev pub asserted : Option Boolean → code_expression.Expression → Meaning → Formula
asserted clock (expressions.Clocked' _ x at _ own) meaning = formula_in meaning
asserted clock _ meaning = under_clock clock meaning

-- `cover r`: {[*];r}!, and under the default clock ({[*];r}!)@c
abbrev pub covered_under : Option Boolean → Meaning → Formula
covered_under None meaning = covered (sequence_in meaning)
covered_under (Some clock) meaning = covered_at (sequence_in meaning) clock

-- `cover`; `cover r@d`: ({[*];r}!)@d
abbrev pub cover_formula : List Named → List Name → Option Boolean → code_expression.Expression → Formula
cover_formula scope names clock (expressions.Clocked' _ x at _ own) =
    covered_at (sequence_in (meaning_of scope names false x)) (boolean_in (meaning_of scope names false own))
cover_formula scope names clock property = covered_under clock (meaning_of scope names false property)

-- the formula of a directive
abbrev pub directive_formula : List Named → List Name → Option Boolean → directive_kind.Kind → code_expression.Expression → Formula
directive_formula scope names clock directives.Cover property = cover_formula scope names clock property
directive_formula scope names clock directives.Assert property = asserted clock property (meaning_of scope names false property)
directive_formula scope names clock directives.Assume property = asserted clock property (meaning_of scope names false property)

-- the text of a token, if there is one
abbrev pub label_text : Option Token → Option (List ℕ)
label_text None = None
label_text (Some label) = Some label.text

-- the directive that a statement is, if it is one
abbrev pub asked_by : List Named → List Name → Option Boolean → code_statement.Statement → List Asked
asked_by scope names clock (statements.Directive label word property report) =
    record {
      kind = directive_kind_of word.kind;
      label = label_text label;
      place = word.place;
      formula = directive_formula scope names clock (directive_kind_of word.kind) property;
    }
    ∷ []
asked_by scope names clock (statements.Declaration word name body) = []

-- the directives of statements, after the declarations before them in their list
abbrev pub asked_after : List Named → List Name → Option Boolean → List code_statement.Statement → List Asked
asked_after scope names clock [] = []
asked_after scope names clock (statement ∷ more) =
    asked_by scope names clock statement ++ asked_after (scope ++ declared_by scope names statement) names clock more

-- the directives of a list of statements
abbrev pub asked_in : List Name → List code_statement.Statement → List Asked
asked_in names all = asked_after [] names (default_clock [] names all) all

-- the directives of verification units, in order; each has its own list of statements and its own default clock
abbrev pub asked_in_units : List Name → List VerificationUnit → List Asked
asked_in_units names [] = []
asked_in_units names (unit ∷ more) = asked_in names unit.statements ++ asked_in_units names more

-- the kernel of a text
abbrev pub kernel : List Name → code_tree.UnitTree → List Asked
kernel names (trees.Units units) = asked_in_units names units
kernel names (trees.Statements all) = asked_in names all
