-- What was read of statements, with one more.
use Rattle.std.proofs.Common.{◌≡◌, ℕ, ◌+◌, ◌<◌, List, [], ◌∷◌, ◌++◌, length, get_or, take, Bool as Truth, true, false, Option, None, Some, Result, Ok, Err, refl, sym, ap, subst, ◌∙◌, add-one}
use Rattle.std.proofs.Math.Seq.{take-suc}
use Rattle.std.proofs.lemmas.List.{append-nil}
use Rattle.std.specs.Option.{option_map, option_or}
use Rattle.std.specs.Prelude.{IfOk, if◌then◌else◌}
use Rattle.std.specs.Str.{bytes_eq}
use Rattle.psl_base.specs.declared.items.NoMemory.{NoMemory}
use Rattle.psl_lexer.specs.declared.token.Token.{Token}
use Rattle.psl_grammar.specs.declared.tree.Expression as code_expression
use Rattle.psl_grammar.specs.declared.tree.Statement as code_statement
use Rattle.psl_grammar.specs.declared.tree.Statement.TheVariants as statements
use Rattle.psl_tree.specs.Trees.{Boolean, Sequence, Formula}
use Rattle.psl_sugar.specs.Budget.{GivesBoolean}
use Rattle.psl_tree.specs.declared.name.Name.{Name}
use Rattle.psl_sugar.specs.declared.fault.SugarFault.{SugarFault}
use Rattle.psl_layer_theory.specs.Directives.{Asked, asked_by, asked_after, clock_by, default_clock, named_by}
use Rattle.psl_layer_theory.specs.FirstFlaw.{first_of, earlier}
use Rattle.psl_layer_theory.specs.Flaws.{statement_flaws, statements_flaws}
use Rattle.psl_layer_theory.specs.Kernel.{Meaning, OfSequence, OfProperty, Named, boolean_in, sequence_in, formula_in}
use Rattle.psl_layer_theory.specs.Kinds.{declared_kind}
use Rattle.psl_layer_theory.specs.Operators.{declaration_word}
use Rattle.psl_layer_theory.specs.declared.fault.Flaw.{Flaw}
use Rattle.psl_layer_theory.specs.declared.kind.ExpressionKind.{ExpressionKind}
use Rattle.psl_layer_theory.specs.declared.operator.DeclarationWord.{DeclarationWord}
use Rattle.psl_layer_theory.specs.declared.operator.DeclarationWord.TheVariants as declarations
use Rattle.psl_layer_theory.proofs.Firsts.{first_of-append}
use Rattle.psl_layer.specs.Asked.{AskAll, IsRead}
use Rattle.psl_layer.specs.Built.{Declared, Gives, GivesClock, IsScope, built_at, kind_in}
use Rattle.psl_layer.specs.Rows.{ReadBoolean, ReadFormula, ReadSequence}
use Rattle.psl_layer.specs.Declaring.{IsGrown, IsNamed}
use Rattle.psl_layer.specs.Scopes.{Stands, named_in, meaning_after}
use Rattle.psl_layer.specs.declared.meaning.Meaning as code_meaning
use Rattle.psl_layer.specs.declared.meaning.Meaning.TheVariants as meanings
use Rattle.psl_layer.specs.declared.scope.Scope.{Scope}
use Rattle.psl_layer.specs.declared.statements.Reading.{Reading}
use Rattle.psl_layer.proofs.Declaring.{named-meanings, named-kinds}
use Rattle.psl_layer.proofs.Scopes.{asked-more, flaws-more, or_none, stands_more}

-- the statements up to one, and it
pub behind_is : (all before : List code_statement.Statement) (place : ℕ) (item statement : code_statement.Statement) → before ≡ take place all → place < length all →
    item ≡ get_or all place item → item ≡ statement → take (place + 1) all ≡ before ++ statement ∷ []
behind_is all before place item statement begun below at is =
    ap (λ (next : ℕ). take next all) (add-one place)
    ∙ take-suc all place item below
    ∙ ap (λ (one : code_statement.Statement). take place all ++ one ∷ []) (sym at ∙ is)
    ∙ ap (λ (first : List code_statement.Statement). first ++ statement ∷ []) (sym begun)

gives-none : (clock : Option (Result Boolean SugarFault)) (wanted : Option Boolean) → GivesClock clock wanted → GivesClock clock (option_or wanted None)
gives-none clock None gives = gives
gives-none clock (Some wanted) gives = gives

-- a scope behind a directive
pub stands_asked : (scope new : Scope) (names : List Name) (label : Option Token) (word : Token) (property : code_expression.Expression) (report : Option Token) →
    new.before.now ≡ scope.before.now ++ statements.Directive label word property report ∷ [] → new.declared ≡ scope.declared → new.clock ≡ scope.clock →
    Stands scope names → Stands new names
stands_asked scope new names label word property report is declared clock stands =
    let named : List Named = named_in names scope.before.now in
    stands_more scope new names (statements.Directive label word property report) is
    (λ text. ap (λ (all : Declared). option_map kind_in (built_at all text)) declared ∙ sym (or_none (option_map kind_in (built_at scope.declared text))))
    (subst (λ (all : List Named). IsScope new.declared all) (sym (append-nil named)) (subst (λ (all : Declared). IsScope all named) (sym declared) stands.meanings))
    (subst (λ (one : Option (Result Boolean SugarFault)). GivesClock one (option_or (default_clock [] names scope.before.now) None)) (sym clock)
    (gives-none scope.clock (default_clock [] names scope.before.now) stands.clock))
    stands

-- a scope behind a declaration of a name, by what its word declares
named_grown : (scope new : Scope) (names : List Name) (word name : Token) (body : code_expression.Expression) (built : code_meaning.Meaning) (wanted : Meaning) →
    new.before.now ≡ scope.before.now ++ statements.Declaration word name body ∷ [] → IsNamed scope.declared name.text built new.declared → new.clock ≡ scope.clock →
    declared_kind (declaration_word word.kind) ≡ Some (kind_in built) →
    named_by (declaration_word word.kind) name.text (meaning_after names scope.before.now false body) ≡ record { text = name.text; meaning = wanted } ∷ [] →
    clock_by (declaration_word word.kind) (meaning_after names scope.before.now false body) ≡ None →
    Gives built wanted → Stands scope names → Stands new names
named_grown scope new names word name body built wanted is declared clock kind by no_clock gives stands =
    let named : List Named = named_in names scope.before.now in
    stands_more scope new names (statements.Declaration word name body) is
    (λ text.
    named-kinds scope.declared new.declared name.text built text declared
    ∙ ap (λ (found : Option ExpressionKind). option_or (option_map kind_in (built_at scope.declared text)) (if bytes_eq name.text text then found else None)) (sym kind))
    (subst (λ (more : List Named). IsScope new.declared (named ++ more)) (sym by) (named-meanings scope.declared new.declared named name.text built wanted declared stands.meanings gives))
    (subst (λ (one : Option Boolean). GivesClock new.clock (option_or (default_clock [] names scope.before.now) one)) (sym no_clock)
    (subst (λ (one : Option (Result Boolean SugarFault)). GivesClock one (option_or (default_clock [] names scope.before.now) None)) (sym clock)
    (gives-none scope.clock (default_clock [] names scope.before.now) stands.clock)))
    stands

pub sequence_grown : (scope : Scope) (before : List code_statement.Statement) (word name : Token) (meaning : code_meaning.Meaning) (sequence : Result Sequence SugarFault) (result : Result Scope NoMemory) →
    declaration_word word.kind ≡ declarations.Sequence → ReadSequence sequence_in meaning sequence →
    IfOk result (λ new. new.before.now ≡ before) → IfOk result (λ new. IsNamed scope.declared name.text (meanings.Sequence sequence) new.declared) →
    IfOk result (λ new. new.clock ≡ scope.clock) → IfOk result (IsGrown scope before word name meaning)
sequence_grown scope before word name meaning sequence (Ok new) is reads ends declared clock = λ names body begins stands gives.
    let whole = meaning_after names scope.before.now false body in (
      named_grown scope new names word name body (meanings.Sequence sequence) (OfSequence (sequence_in whole)) (ends ∙ begins) declared clock
          (ap declared_kind is) (ap (λ (one : DeclarationWord). named_by one name.text whole) is) (ap (λ (one : DeclarationWord). clock_by one whole) is) (reads whole gives) stands,
      ends,
    )
sequence_grown scope before word name meaning sequence (Err refused) is reads ends declared clock = tt

pub property_grown : (scope : Scope) (before : List code_statement.Statement) (word name : Token) (meaning : code_meaning.Meaning) (formula : Result Formula SugarFault) (result : Result Scope NoMemory) →
    declaration_word word.kind ≡ declarations.Property → ReadFormula formula_in meaning formula →
    IfOk result (λ new. new.before.now ≡ before) → IfOk result (λ new. IsNamed scope.declared name.text (meanings.Property formula) new.declared) →
    IfOk result (λ new. new.clock ≡ scope.clock) → IfOk result (IsGrown scope before word name meaning)
property_grown scope before word name meaning formula (Ok new) is reads ends declared clock = λ names body begins stands gives.
    let whole = meaning_after names scope.before.now false body in (
      named_grown scope new names word name body (meanings.Property formula) (OfProperty (formula_in whole)) (ends ∙ begins) declared clock
          (ap declared_kind is) (ap (λ (one : DeclarationWord). named_by one name.text whole) is) (ap (λ (one : DeclarationWord). clock_by one whole) is) (reads whole gives) stands,
      ends,
    )
property_grown scope before word name meaning formula (Err refused) is reads ends declared clock = tt

by_either : (here : Truth) (found : Option ExpressionKind) → found ≡ (if here then found else found)
by_either true found = refl
by_either false found = refl

gives-first : (first : Option (Result Boolean SugarFault)) (second : Result Boolean SugarFault) (before : Option Boolean) (wanted : Boolean) → GivesClock first before → GivesBoolean second wanted →
    GivesClock (option_or first (Some second)) (option_or before (Some wanted))
gives-first None second None wanted gives own = own
gives-first None second (Some other) wanted gives own = absurd gives
gives-first (Some one) second None wanted gives own = absurd gives
gives-first (Some one) second (Some other) wanted gives own = gives

pub clock_grown : (scope new : Scope) (before : List code_statement.Statement) (word name : Token) (meaning : code_meaning.Meaning) (clock : Result Boolean SugarFault) →
    declaration_word word.kind ≡ declarations.DefaultClock → ReadBoolean boolean_in meaning clock →
    new.before.now ≡ before → new.declared ≡ scope.declared → new.clock ≡ option_or scope.clock (Some clock) → IsGrown scope before word name meaning new
clock_grown scope new before word name meaning clock is reads ends declared first names body begins stands gives =
    let named : List Named = named_in names scope.before.now in
    let whole = meaning_after names scope.before.now false body in
    let early : Option Boolean = default_clock [] names scope.before.now in
    let kind : declared_kind (declaration_word word.kind) ≡ None = ap declared_kind is in
    let by : named_by (declaration_word word.kind) name.text whole ≡ [] = ap (λ (one : DeclarationWord). named_by one name.text whole) is in
    let own : clock_by (declaration_word word.kind) whole ≡ Some (boolean_in whole) = ap (λ (one : DeclarationWord). clock_by one whole) is in (
      stands_more scope new names (statements.Declaration word name body) (ends ∙ begins)
          (λ text.
          ap (λ (all : Declared). option_map kind_in (built_at all text)) declared
          ∙ sym (or_none (option_map kind_in (built_at scope.declared text)))
          ∙ ap (option_or (option_map kind_in (built_at scope.declared text)))
          (by_either (bytes_eq name.text text) None
          ∙ ap (λ (found : Option ExpressionKind). if bytes_eq name.text text then found else None) (sym kind)))
          (subst (λ (more : List Named). IsScope new.declared (named ++ more)) (sym by)
          (subst (λ (all : List Named). IsScope new.declared all) (sym (append-nil named)) (subst (λ (all : Declared). IsScope all named) (sym declared) stands.meanings)))
          (subst (λ (one : Option Boolean). GivesClock new.clock (option_or early one)) (sym own)
          (subst (λ (one : Option (Result Boolean SugarFault)). GivesClock one (option_or early (Some (boolean_in whole)))) (sym first)
          (gives-first scope.clock clock early (boolean_in whole) stands.clock (reads whole gives))))
          stands,
      ends,
    )

-- what was read with a statement more
pub read_more : (names : List Name) (reading new : Reading) (statement : code_statement.Statement) (own : Option Flaw) →
    new.scope.before.now ≡ reading.scope.before.now ++ statement ∷ [] → Stands new.scope names →
    ((clock : Option Boolean) → AskAll clock new.asked.items
    (asked_after [] names clock reading.scope.before.now ++ asked_by (named_in names reading.scope.before.now) names clock statement)) →
    own ≡ first_of (statement_flaws reading.scope.before.now names statement) → new.flaw ≡ earlier reading.flaw own → IsRead names reading → IsRead names new
read_more names reading new statement own is stands asked is_own flaw read =
    let before : List code_statement.Statement = reading.scope.before.now in
    let first : Option Flaw = first_of (statements_flaws [] names before) in
    record {
      scope = stands;
      asked =
          λ clock.
          subst (λ (all : List code_statement.Statement). AskAll clock new.asked.items (asked_after [] names clock all)) (sym is)
          (subst (λ (all : List Asked). AskAll clock new.asked.items all) (sym (asked-more [] names clock before statement)) (asked clock));
      flaw =
          flaw
          ∙ ap (λ (one : Option Flaw). earlier one own) read.flaw
          ∙ ap (earlier first) is_own
          ∙ sym (first_of-append (statements_flaws [] names before) (statement_flaws before names statement))
          ∙ ap first_of (sym (flaws-more [] names before statement))
          ∙ ap (λ (all : List code_statement.Statement). first_of (statements_flaws [] names all)) (sym is);
    }
