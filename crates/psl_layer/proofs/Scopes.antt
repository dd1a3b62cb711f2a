-- One statement more: what statements declare and ask, their default clock and their faults.
use Rattle.std.proofs.Common.{◌≡◌, ℕ, List, [], ◌∷◌, ◌++◌, Bool as Truth, false, ◌||◌, Option, None, Some, Result, refl, sym, ap, subst, ◌∙◌, append_assoc}
use Rattle.std.proofs.lemmas.List.{append-nil}
use Rattle.std.specs.List.{list_any}
use Rattle.std.specs.Option.{is_some, option_map, option_or}
use Rattle.psl_grammar.specs.declared.tree.Statement as code_statement
use Rattle.psl_grammar.specs.declared.tree.Statement.TheVariants as statements
use Rattle.psl_grammar.specs.declared.tree.VerificationUnit.{VerificationUnit}
use Rattle.psl_tree.specs.Trees.{Boolean}
use Rattle.psl_tree.specs.declared.name.Name.{Name}
use Rattle.psl_sugar.specs.declared.fault.SugarFault.{SugarFault}
use Rattle.psl_layer_theory.specs.Directives.{Asked, asked_by, asked_after, asked_in, asked_in_units, declared_by, clock_by, clock_of, default_clock}
use Rattle.psl_layer_theory.specs.Flaws.{is_clock, declares_clock, statement_flaws, statements_flaws, units_flaws}
use Rattle.psl_layer_theory.specs.Kernel.{Meaning, Named, meaning_of}
use Rattle.psl_layer_theory.specs.Kinds.{declared_as, kind_declared_by}
use Rattle.psl_layer_theory.specs.Operators.{declaration_word}
use Rattle.psl_layer_theory.specs.declared.fault.Flaw.{Flaw}
use Rattle.psl_layer_theory.specs.declared.kind.ExpressionKind.{ExpressionKind}
use Rattle.psl_layer_theory.specs.declared.operator.DeclarationWord.{DeclarationWord}
use Rattle.psl_layer_theory.specs.declared.operator.DeclarationWord.TheVariants as declarations
use Rattle.psl_layer.specs.Built.{GivesClock, IsScope, built_at, kind_in}
use Rattle.psl_layer.specs.Scopes.{Stands, named_after, named_in}
use Rattle.psl_layer.specs.declared.scope.Scope.{Scope}

or_assoc : {A : Type 0} (first second third : Option A) → option_or first (option_or second third) ≡ option_or (option_or first second) third
or_assoc None second third = refl
or_assoc (Some one) second third = refl

-- nothing behind
pub or_none : {A : Type 0} (found : Option A) → option_or found None ≡ found
or_none None = refl
or_none (Some one) = refl

-- with a statement more
pub declared-more : (before : List code_statement.Statement) (statement : code_statement.Statement) (text : List ℕ) →
    declared_as (before ++ statement ∷ []) text ≡ option_or (declared_as before text) (kind_declared_by text statement)
declared-more [] statement text = or_none (kind_declared_by text statement)
declared-more (first ∷ more) statement text =
    ap (option_or (kind_declared_by text first)) (declared-more more statement text)
    ∙ or_assoc (kind_declared_by text first) (declared_as more text) (kind_declared_by text statement)

pub named-more : (scope : List Named) (names : List Name) (before : List code_statement.Statement) (statement : code_statement.Statement) →
    named_after scope names (before ++ statement ∷ []) ≡ named_after scope names before ++ declared_by (named_after scope names before) names statement
named-more scope names [] statement = refl
named-more scope names (first ∷ more) statement = named-more (scope ++ declared_by scope names first) names more statement

pub clock-more : (scope : List Named) (names : List Name) (before : List code_statement.Statement) (statement : code_statement.Statement) →
    default_clock scope names (before ++ statement ∷ []) ≡ option_or (default_clock scope names before) (clock_of (named_after scope names before) names statement)
clock-more scope names [] statement = or_none (clock_of scope names statement)
clock-more scope names (first ∷ more) statement =
    let next = scope ++ declared_by scope names first in
    ap (option_or (clock_of scope names first)) (clock-more next names more statement)
    ∙ or_assoc (clock_of scope names first) (default_clock next names more) (clock_of (named_after next names more) names statement)

pub asked-more : (scope : List Named) (names : List Name) (clock : Option Boolean) (before : List code_statement.Statement) (statement : code_statement.Statement) →
    asked_after scope names clock (before ++ statement ∷ []) ≡ asked_after scope names clock before ++ asked_by (named_after scope names before) names clock statement
asked-more scope names clock [] statement = append-nil (asked_by scope names clock statement)
asked-more scope names clock (first ∷ more) statement =
    let next = scope ++ declared_by scope names first in
    ap (λ (all : List Asked). asked_by scope names clock first ++ all) (asked-more next names clock more statement)
    ∙ sym (append_assoc (asked_by scope names clock first) (asked_after next names clock more) (asked_by (named_after next names more) names clock statement))

pub flaws-more : (scope : List code_statement.Statement) (names : List Name) (before : List code_statement.Statement) (statement : code_statement.Statement) →
    statements_flaws scope names (before ++ statement ∷ []) ≡ statements_flaws scope names before ++ statement_flaws (scope ++ before) names statement
flaws-more scope names [] statement =
    append-nil (statement_flaws scope names statement) ∙ ap (λ (all : List code_statement.Statement). statement_flaws all names statement) (sym (append-nil scope))
flaws-more scope names (first ∷ more) statement =
    ap (λ (all : List Flaw). statement_flaws scope names first ++ all)
    (flaws-more (scope ++ first ∷ []) names more statement
    ∙ ap (λ (all : List code_statement.Statement). statements_flaws (scope ++ first ∷ []) names more ++ statement_flaws all names statement) (append_assoc scope (first ∷ []) more))
    ∙ sym (append_assoc (statement_flaws scope names first) (statements_flaws (scope ++ first ∷ []) names more) (statement_flaws (scope ++ first ∷ more) names statement))

-- with a unit more
pub units-asked-more : (names : List Name) (before : List VerificationUnit) (unit : VerificationUnit) →
    asked_in_units names (before ++ unit ∷ []) ≡ asked_in_units names before ++ asked_in names unit.statements
units-asked-more names [] unit = append-nil (asked_in names unit.statements)
units-asked-more names (first ∷ more) unit =
    ap (λ (all : List Asked). asked_in names first.statements ++ all) (units-asked-more names more unit)
    ∙ sym (append_assoc (asked_in names first.statements) (asked_in_units names more) (asked_in names unit.statements))

pub units-flaws-more : (names : List Name) (before : List VerificationUnit) (unit : VerificationUnit) →
    units_flaws names (before ++ unit ∷ []) ≡ units_flaws names before ++ statements_flaws [] names unit.statements
units-flaws-more names [] unit = append-nil (statements_flaws [] names unit.statements)
units-flaws-more names (first ∷ more) unit =
    ap (λ (all : List Flaw). statements_flaws [] names first.statements ++ all) (units-flaws-more names more unit)
    ∙ sym (append_assoc (statements_flaws [] names first.statements) (units_flaws names more) (statements_flaws [] names unit.statements))

clock-by : (word : DeclarationWord) (meaning : Meaning) → is_some (clock_by word meaning) ≡ is_clock word
clock-by declarations.Sequence meaning = refl
clock-by declarations.Property meaning = refl
clock-by declarations.DefaultClock meaning = refl

clock-of : (scope : List Named) (names : List Name) (statement : code_statement.Statement) → is_some (clock_of scope names statement) ≡ declares_clock statement
clock-of scope names (statements.Directive label word property report) = refl
clock-of scope names (statements.Declaration word name body) = clock-by (declaration_word word.kind) (meaning_of scope names false body)

some-or : (first second : Option Boolean) → is_some (option_or first second) ≡ (is_some first || is_some second)
some-or None second = refl
some-or (Some one) second = refl

-- there is a default clock where some statement declares it
has-clock : (scope : List Named) (names : List Name) (all : List code_statement.Statement) → is_some (default_clock scope names all) ≡ list_any declares_clock all
has-clock scope names [] = refl
has-clock scope names (first ∷ more) =
    let next = scope ++ declared_by scope names first in
    some-or (clock_of scope names first) (default_clock next names more)
    ∙ ap (λ (here : Truth). here || is_some (default_clock next names more)) (clock-of scope names first)
    ∙ ap (λ (rest : Truth). declares_clock first || rest) (has-clock next names more)

gives-some : (clock : Option (Result Boolean SugarFault)) (wanted : Option Boolean) → GivesClock clock wanted → is_some clock ≡ is_some wanted
gives-some None None gives = refl
gives-some None (Some one) gives = absurd gives
gives-some (Some one) None gives = absurd gives
gives-some (Some one) (Some other) gives = refl

-- a scope has a clock where some statement declares it
pub stands_clock : (scope : Scope) (names : List Name) → Stands scope names → is_some scope.clock ≡ list_any declares_clock scope.before.now
stands_clock scope names stands = gives-some scope.clock (default_clock [] names scope.before.now) stands.clock ∙ has-clock [] names scope.before.now

some-map : {A B : Type 0} (f : A → B) (found : Option A) → is_some (option_map f found) ≡ is_some found
some-map f None = refl
some-map f (Some one) = refl

-- and a text where it is declared
pub stands_declared : (scope : Scope) (names : List Name) (text : List ℕ) → Stands scope names → is_some (built_at scope.declared text) ≡ is_some (declared_as scope.before.now text)
stands_declared scope names text stands = sym (some-map kind_in (built_at scope.declared text)) ∙ ap is_some (stands.kinds text)

-- a scope with a statement more
pub stands_more : (scope new : Scope) (names : List Name) (statement : code_statement.Statement) → new.before.now ≡ scope.before.now ++ statement ∷ [] →
    ((text : List ℕ) → option_map kind_in (built_at new.declared text) ≡ option_or (option_map kind_in (built_at scope.declared text)) (kind_declared_by text statement)) →
    IsScope new.declared (named_in names scope.before.now ++ declared_by (named_in names scope.before.now) names statement) →
    GivesClock new.clock (option_or (default_clock [] names scope.before.now) (clock_of (named_in names scope.before.now) names statement)) →
    Stands scope names → Stands new names
stands_more scope new names statement is kinds meanings clock stands =
    let P : List code_statement.Statement → Type 0 = λ before. IsScope new.declared (named_in names before) in
    let Q : List code_statement.Statement → Type 0 = λ before. GivesClock new.clock (default_clock [] names before) in
    record {
      kinds =
          λ text.
          kinds text
          ∙ ap (λ (found : Option ExpressionKind). option_or found (kind_declared_by text statement)) (stands.kinds text)
          ∙ sym (declared-more scope.before.now statement text)
          ∙ ap (λ (before : List code_statement.Statement). declared_as before text) (sym is);
      meanings = subst P (sym is) (subst (λ (named : List Named). IsScope new.declared named) (sym (named-more [] names scope.before.now statement)) meanings);
      clock = subst Q (sym is) (subst (λ (wanted : Option Boolean). GivesClock new.clock wanted) (sym (clock-more [] names scope.before.now statement)) clock);
    }
