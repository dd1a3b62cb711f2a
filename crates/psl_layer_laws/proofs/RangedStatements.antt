-- The atoms of a text's kernel are in range of the names.
use Rattle.std.proofs.Common.{ℕ, false, List, [], ◌∷◌, ◌++◌, Option, None, Some}
use Rattle.std.specs.Prelude.{All}
use Rattle.std.specs.Option.{option_or}
use Rattle.std.proofs.lemmas.List.Elements.{All-append, All-cons, All-nil}
use Rattle.psl_grammar.specs.declared.tree.Expression as code_expression
use Rattle.psl_grammar.specs.declared.tree.Expression.TheVariants as expressions
use Rattle.psl_grammar.specs.declared.tree.Statement as code_statement
use Rattle.psl_grammar.specs.declared.tree.Statement.TheVariants as statements
use Rattle.psl_grammar.specs.declared.tree.UnitTree as code_tree
use Rattle.psl_grammar.specs.declared.tree.UnitTree.TheVariants as trees
use Rattle.psl_grammar.specs.declared.tree.VerificationUnit.{VerificationUnit}
use Rattle.psl_layer_laws.proofs.RangedExpressions.{meaning-has}
use Rattle.psl_sugar.proofs.RangedProperties as properties
use Rattle.psl_layer_laws.proofs.RangedOperators.{MeaningHas, NamedHave, boolean-has, sequence-has, formula-has, clocked-has}
use Rattle.psl_layer_theory.specs.declared.operator.DeclarationWord.{DeclarationWord}
use Rattle.psl_layer_theory.specs.declared.operator.DeclarationWord.TheVariants as declarations
use Rattle.psl_layer_theory.specs.Directives.{Asked, named_by, declared_by, clock_by, clock_of, default_clock, under_clock, asserted, covered_under, cover_formula, directive_formula, label_text, asked_by, asked_after, asked_in, asked_in_units, kernel}
use Rattle.psl_layer_theory.specs.Kernel.{Meaning, Named, OfSequence, OfProperty, boolean_in, sequence_in, formula_in, clocked_meaning, meaning_of}
use Rattle.psl_layer_theory.specs.Operators.{declaration_word, directive_kind_of}
use Rattle.psl_tree.specs.Atoms.{AtomsOfBoolean, AtomsOfFormula}
use Rattle.psl_tree.specs.Names.{AtomInRange, AreAlike}
use Rattle.psl_tree.specs.Trees.{Boolean}
use Rattle.psl_tree.specs.declared.atom.Atom.{Atom}
use Rattle.psl_tree.specs.declared.directive.Kind as directive_kind
use Rattle.psl_tree.specs.declared.directive.Kind.TheVariants as directives
use Rattle.psl_tree.specs.declared.name.Name.{Name}

-- ---- declarations and default clocks, whatever the atoms of their operands have

module _ (P : Atom → Type 0) where
  -- each atom of the default clock has P, if there is one
  abbrev ClockHas : Option Boolean → Type 0
  ClockHas None = Unit {0}
  ClockHas (Some clock) = AtomsOfBoolean P clock

  named-by-have : (word : DeclarationWord) (text : List ℕ) (part : Meaning) → MeaningHas P part → NamedHave P (named_by word text part)
  named-by-have declarations.Sequence text part h =
      let one : Named = record { text = text; meaning = OfSequence (sequence_in part) } in
      All-cons (λ (named : Named). MeaningHas P named.meaning) one [] (sequence-has P part h) (All-nil (λ (named : Named). MeaningHas P named.meaning))
  named-by-have declarations.Property text part h =
      let one : Named = record { text = text; meaning = OfProperty (formula_in part) } in
      All-cons (λ (named : Named). MeaningHas P named.meaning) one [] (formula-has P part h) (All-nil (λ (named : Named). MeaningHas P named.meaning))
  named-by-have declarations.DefaultClock text part h = All-nil (λ (named : Named). MeaningHas P named.meaning)

  clock-by-has : (word : DeclarationWord) (part : Meaning) → MeaningHas P part → ClockHas (clock_by word part)
  clock-by-has declarations.Sequence part h = tt
  clock-by-has declarations.Property part h = tt
  clock-by-has declarations.DefaultClock part h = boolean-has P part h

  or-has : (first second : Option Boolean) → ClockHas first → ClockHas second → ClockHas (option_or first second)
  or-has None second h k = k
  or-has (Some clock) second h k = h

  under-has : (clock : Option Boolean) (part : Meaning) → ClockHas clock → MeaningHas P part → AtomsOfFormula P (under_clock clock part)
  under-has None part h k = formula-has P part k
  under-has (Some clock) part h k = formula-has P (clocked_meaning part clock) (clocked-has P part clock k h)

  asserted-has : (clock : Option Boolean) (x : code_expression.Expression) (part : Meaning) → ClockHas clock → MeaningHas P part → AtomsOfFormula P (asserted clock x part)
  asserted-has clock (expressions.Clocked' _ x at _ own) part h k = formula-has P part k
  asserted-has clock _ part h k = under-has clock part h k

  covered-under-has : (clock : Option Boolean) (part : Meaning) → ClockHas clock → MeaningHas P part → AtomsOfFormula P (covered_under clock part)
  covered-under-has None part h k = properties.covered-has P (sequence_in part) (sequence-has P part k)
  covered-under-has (Some clock) part h k = properties.covered-at-has P (sequence_in part) clock (sequence-has P part k) h

-- ---- statements

module _ (names : List Name) (alike : AreAlike names) where
  module _ (scope : List Named) (have : NamedHave (AtomInRange names) scope) where
    declared-by-have : (one : code_statement.Statement) → NamedHave (AtomInRange names) (declared_by scope names one)
    declared-by-have (statements.Directive label word property report) = All-nil (λ (named : Named). MeaningHas (AtomInRange names) named.meaning)
    declared-by-have (statements.Declaration word name body) =
        named-by-have (AtomInRange names) (declaration_word word.kind) name.text (meaning_of scope names false body) (meaning-has names alike scope have false body)

    clock-of-has : (one : code_statement.Statement) → ClockHas (AtomInRange names) (clock_of scope names one)
    clock-of-has (statements.Directive label word property report) = tt
    clock-of-has (statements.Declaration word name body) =
        clock-by-has (AtomInRange names) (declaration_word word.kind) (meaning_of scope names false body) (meaning-has names alike scope have false body)

    cover-has : (clock : Option Boolean) → ClockHas (AtomInRange names) clock → (x : code_expression.Expression) → AtomsOfFormula (AtomInRange names) (cover_formula scope names clock x)
    cover-has clock h (expressions.Clocked' _ x at _ own) =
        properties.covered-at-has (AtomInRange names) (sequence_in (meaning_of scope names false x)) (boolean_in (meaning_of scope names false own))
        (sequence-has (AtomInRange names) (meaning_of scope names false x) (meaning-has names alike scope have false x))
        (boolean-has (AtomInRange names) (meaning_of scope names false own) (meaning-has names alike scope have false own))
    cover-has clock h x = covered-under-has (AtomInRange names) clock (meaning_of scope names false x) h (meaning-has names alike scope have false x)

    directive-has : (clock : Option Boolean) → ClockHas (AtomInRange names) clock → (kind : directive_kind.Kind) (x : code_expression.Expression)
        → AtomsOfFormula (AtomInRange names) (directive_formula scope names clock kind x)
    directive-has clock h directives.Cover x = cover-has clock h x
    directive-has clock h directives.Assert x =
        asserted-has (AtomInRange names) clock x (meaning_of scope names false x) h (meaning-has names alike scope have false x)
    directive-has clock h directives.Assume x =
        asserted-has (AtomInRange names) clock x (meaning_of scope names false x) h (meaning-has names alike scope have false x)

    asked-by-have : (clock : Option Boolean) → ClockHas (AtomInRange names) clock → (one : code_statement.Statement)
        → All (λ asked. AtomsOfFormula (AtomInRange names) asked.formula) (asked_by scope names clock one)
    asked-by-have clock h (statements.Directive label word property report) =
        let asked : Asked = record {
          kind = directive_kind_of word.kind;
          label = label_text label;
          place = word.place;
          formula = directive_formula scope names clock (directive_kind_of word.kind) property;
        } in
        All-cons (λ (one : Asked). AtomsOfFormula (AtomInRange names) one.formula) asked [] (directive-has clock h (directive_kind_of word.kind) property)
        (All-nil (λ (one : Asked). AtomsOfFormula (AtomInRange names) one.formula))
    asked-by-have clock h (statements.Declaration word name body) = All-nil (λ (one : Asked). AtomsOfFormula (AtomInRange names) one.formula)

  longer-have : (scope : List Named) → NamedHave (AtomInRange names) scope → (one : code_statement.Statement)
      → NamedHave (AtomInRange names) (scope ++ declared_by scope names one)
  longer-have scope have one =
      All-append (λ (named : Named). MeaningHas (AtomInRange names) named.meaning) scope (declared_by scope names one) have (declared-by-have scope have one)

  default-has : (scope : List Named) → NamedHave (AtomInRange names) scope → (all : List code_statement.Statement) → ClockHas (AtomInRange names) (default_clock scope names all)
  default-has scope have [] = tt
  default-has scope have (one ∷ more) =
      or-has (AtomInRange names) (clock_of scope names one) (default_clock (scope ++ declared_by scope names one) names more) (clock-of-has scope have one)
      (default-has (scope ++ declared_by scope names one) (longer-have scope have one) more)

  asked-after-have : (scope : List Named) → NamedHave (AtomInRange names) scope → (clock : Option Boolean) → ClockHas (AtomInRange names) clock → (all : List code_statement.Statement)
      → All (λ asked. AtomsOfFormula (AtomInRange names) asked.formula) (asked_after scope names clock all)
  asked-after-have scope have clock h [] = All-nil (λ (one : Asked). AtomsOfFormula (AtomInRange names) one.formula)
  asked-after-have scope have clock h (one ∷ more) =
      All-append (λ (asked : Asked). AtomsOfFormula (AtomInRange names) asked.formula) (asked_by scope names clock one) (asked_after (scope ++ declared_by scope names one) names clock more)
      (asked-by-have scope have clock h one)
      (asked-after-have (scope ++ declared_by scope names one) (longer-have scope have one) clock h more)

  asked-in-have : (all : List code_statement.Statement) → All (λ asked. AtomsOfFormula (AtomInRange names) asked.formula) (asked_in names all)
  asked-in-have all =
      let none : NamedHave (AtomInRange names) [] = All-nil (λ (named : Named). MeaningHas (AtomInRange names) named.meaning) in
      asked-after-have [] none (default_clock [] names all) (default-has [] none all) all

  units-have : (units : List VerificationUnit) → All (λ asked. AtomsOfFormula (AtomInRange names) asked.formula) (asked_in_units names units)
  units-have [] = All-nil (λ (one : Asked). AtomsOfFormula (AtomInRange names) one.formula)
  units-have (unit ∷ more) =
      All-append (λ (asked : Asked). AtomsOfFormula (AtomInRange names) asked.formula) (asked_in names unit.statements) (asked_in_units names more)
      (asked-in-have unit.statements) (units-have more)

-- the atoms of a text's kernel are in range
pub atoms-in-range : (names : List Name) (tree : code_tree.UnitTree) → AreAlike names → All (λ asked. AtomsOfFormula (AtomInRange names) asked.formula) (kernel names tree)
atoms-in-range names (trees.Units units) alike = units-have names alike units
atoms-in-range names (trees.Statements all) alike = asked-in-have names alike all
