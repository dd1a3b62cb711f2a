-- What expressions are hangs on their tokens alone, and not on their boxes.
use Rattle.std.proofs.Common.{◌≡◌, refl, ap, ◌∙◌, ℕ, List, ◌++◌, Option, Bool, true, false}
use Rattle.std.specs.Option.{is_some}
use Rattle.std.specs.Prelude.{if◌then◌else◌, ◌&&◌}
use Rattle.psl_lexer.specs.declared.kind.TokenKind.{TokenKind}
use Rattle.psl_lexer.specs.declared.token.Token.{Token}
use Rattle.psl_grammar.specs.declared.tree.Expression as code_expression
use Rattle.psl_grammar.specs.declared.tree.Expression.TheVariants as expressions
use Rattle.psl_grammar.specs.declared.tree.Statement as code_statement
use Rattle.psl_layer_laws.proofs.Cleared.{clear}
use Rattle.psl_layer_theory.specs.Directives.{asserted, covered_under, cover_formula}
use Rattle.psl_layer_theory.specs.Flaws.{is_declared, side_of, expression_flaws}
use Rattle.psl_layer_theory.specs.Kernel.{Meaning, OfBoolean, Named, operand_of, compared, operated, meaning_of}
use Rattle.psl_layer_theory.specs.Kinds.{is_part, before_part, prefix_kind, clocked_kind, grouped_kind, place_of, operator_before, declared_as, kind_as, kind_of}
use Rattle.psl_layer_theory.specs.Operators.{infix_operator, prefix_operator, strength_of}
use Rattle.psl_layer_theory.specs.Texts.{path_text}
use Rattle.psl_layer_theory.specs.declared.fault.Flaw.{Flaw}
use Rattle.psl_layer_theory.specs.declared.kind.ExpressionKind.{ExpressionKind}
use Rattle.psl_layer_theory.specs.declared.operator.InfixOperator.{InfixOperator}
use Rattle.psl_layer_theory.specs.declared.operator.InfixOperator.TheVariants as operators
use Rattle.psl_sugar.specs.declared.comparison.Comparison.{Comparison}
use Rattle.psl_sugar.specs.declared.operator.Strength.{Strength}
use Rattle.psl_tree.specs.Trees.{Boolean}
use Rattle.psl_tree.specs.declared.name.Name.{Name}

part-clear : (x : code_expression.Expression) → is_part (clear x) ≡ is_part x
part-clear (expressions.Repeated' _ x opening count) = refl
part-clear _ = refl

pub place-clear : (x : code_expression.Expression) → place_of (clear x) ≡ place_of x
place-clear (expressions.Infix' _ x op _ y) = place-clear x
place-clear (expressions.Postfix' _ x op) = place-clear x
place-clear (expressions.Repeated' _ x opening count) = place-clear x
place-clear (expressions.Clocked' _ x at _ clock) = place-clear x
place-clear _ = refl

operator-clear : (in_sere : Bool) (kind : TokenKind) (y : code_expression.Expression) → operator_before in_sere kind (clear y) ≡ operator_before in_sere kind y
operator-clear in_sere kind y = ap (λ (b : Bool). if in_sere && b then before_part (infix_operator kind) else infix_operator kind) (part-clear y)

-- kinds and faults behind statements that declare the same
module _ (s t : List code_statement.Statement) (declared : (text : List ℕ) → declared_as s text ≡ declared_as t text) where
  pub kind-clear : (in_sere : Bool) (x : code_expression.Expression) → kind_of s in_sere (clear x) ≡ kind_of t in_sere x
  kind-clear in_sere (expressions.Prefix' op _ x) = ap (prefix_kind in_sere (prefix_operator op.kind)) (kind-clear in_sere x)
  kind-clear in_sere (expressions.Infix' _ x op _ y) = rw (operator-clear in_sere op.kind y, kind-clear in_sere x, kind-clear in_sere y) refl
  kind-clear in_sere (expressions.Clocked' _ x at _ clock) = ap (clocked_kind in_sere) (kind-clear in_sere x)
  kind-clear in_sere (expressions.Grouped' opening _ x) = ap grouped_kind (kind-clear false x)
  kind-clear in_sere (expressions.Signal path index) = ap (λ (k : Option ExpressionKind). kind_as k index) (declared (path_text path))
  kind-clear in_sere _ = refl

  module _ (names : List Name) where
    is-declared-same : (path : List Token) → is_declared s path ≡ is_declared t path
    is-declared-same path = ap is_some (declared (path_text path))

    side-clear : (x : code_expression.Expression) → side_of s names (clear x) ≡ side_of t names x
    side-clear (expressions.Signal path index) = rw (is-declared-same path) refl
    side-clear _ = refl

    both : {a b c d : List Flaw} → a ≡ b → c ≡ d → a ++ c ≡ b ++ d
    both {a = a} {b = b} {c = c} {d = d} e e2 = ap (λ (xs : List Flaw). xs ++ c) e ∙ ap (λ (ys : List Flaw). b ++ ys) e2

    pub flaws-clear : (in_sere : Bool) (x : code_expression.Expression) → expression_flaws s names in_sere (clear x) ≡ expression_flaws t names in_sere x
    flaws-clear in_sere (expressions.Prefix' op _ x) = both (flaws-clear in_sere x) (rw (kind-clear in_sere x, place-clear x) refl)
    flaws-clear in_sere (expressions.Infix' _ x op _ y) =
        both (both (flaws-clear in_sere x) (flaws-clear in_sere y))
        (rw (operator-clear in_sere op.kind y, side-clear x, side-clear y, place-clear x, place-clear y, kind-clear in_sere x, kind-clear in_sere y) refl)
    flaws-clear in_sere (expressions.Postfix' _ x op) = both (flaws-clear in_sere x) (rw (kind-clear in_sere x, place-clear x) refl)
    flaws-clear in_sere (expressions.Repeated' _ x opening count) = both (both (flaws-clear in_sere x) (rw (kind-clear in_sere x, place-clear x) refl)) refl
    flaws-clear in_sere (expressions.Clocked' _ x at _ clock) =
        both (both (both (flaws-clear in_sere x) (flaws-clear false clock)) (rw (kind-clear in_sere x, place-clear x) refl)) (rw (kind-clear false clock, place-clear clock) refl)
    flaws-clear in_sere (expressions.Grouped' opening _ x) = both (flaws-clear false x) (rw (kind-clear false x) refl)
    flaws-clear in_sere (expressions.Braced' opening _ x) = both (flaws-clear true x) (rw (kind-clear true x, place-clear x) refl)
    flaws-clear in_sere (expressions.Signal path index) = rw (is-declared-same path) refl
    flaws-clear in_sere (expressions.Edge edge path index) = rw (is-declared-same path) refl
    flaws-clear in_sere (expressions.NextTimes' word count _ x) = both (flaws-clear false x) refl
    flaws-clear in_sere (expressions.NextEvent' word _ condition count _ x) =
        both (both (both (flaws-clear false condition) (flaws-clear false x)) (rw (kind-clear false condition, place-clear condition) refl)) refl
    flaws-clear in_sere _ = refl

module _ (names : List Name) where
  operand-clear : (x : code_expression.Expression) → operand_of names (clear x) ≡ operand_of names x
  operand-clear (expressions.Signal path index) = refl
  operand-clear (expressions.Literal token) = refl
  operand-clear _ = refl

  compared-clear : (comparison : Comparison) (x y : code_expression.Expression) → compared names comparison (clear x) (clear y) ≡ compared names comparison x y
  compared-clear comparison x y = rw (operand-clear x, operand-clear y) refl

  operated-clear : (operator : InfixOperator) (strength : Strength) (x y : code_expression.Expression) (left right : Meaning) →
      operated names operator strength (clear x) (clear y) left right ≡ operated names operator strength x y left right
  operated-clear (operators.Comparison comparison) strength x y left right = ap OfBoolean (compared-clear comparison x y)
  operated-clear _ strength x y left right = refl

  module _ (scope : List Named) where
    pub meaning-clear : (in_sere : Bool) (x : code_expression.Expression) → meaning_of scope names in_sere (clear x) ≡ meaning_of scope names in_sere x
    meaning-clear in_sere (expressions.Prefix' op _ x) = rw (meaning-clear in_sere x) refl
    meaning-clear in_sere (expressions.Infix' _ x op _ y) =
        rw (operator-clear in_sere op.kind y, meaning-clear in_sere x, meaning-clear in_sere y)
        (operated-clear (operator_before in_sere op.kind y) (strength_of op.kind) x y (meaning_of scope names in_sere x) (meaning_of scope names in_sere y))
    meaning-clear in_sere (expressions.Postfix' _ x op) = rw (meaning-clear in_sere x) refl
    meaning-clear in_sere (expressions.Repeated' _ x opening count) = rw (meaning-clear in_sere x) refl
    meaning-clear in_sere (expressions.Clocked' _ x at _ clock) = rw (meaning-clear in_sere x, meaning-clear false clock) refl
    meaning-clear in_sere (expressions.Grouped' opening _ x) = rw (meaning-clear false x) refl
    meaning-clear in_sere (expressions.Braced' opening _ x) = rw (meaning-clear true x) refl
    meaning-clear in_sere (expressions.NextTimes' word count _ x) = rw (meaning-clear false x) refl
    meaning-clear in_sere (expressions.NextEvent' word _ condition count _ x) = rw (meaning-clear false condition, meaning-clear false x) refl
    meaning-clear in_sere _ = refl

    pub asserted-clear : (clock : Option Boolean) (x : code_expression.Expression) (meaning : Meaning) → asserted clock (clear x) meaning ≡ asserted clock x meaning
    asserted-clear default (expressions.Clocked' _ x at _ clock) meaning = refl
    asserted-clear default _ meaning = refl

    pub cover-clear : (clock : Option Boolean) (x : code_expression.Expression) → cover_formula scope names clock (clear x) ≡ cover_formula scope names clock x
    cover-clear default (expressions.Clocked' _ x at _ own) = rw (meaning-clear false x, meaning-clear false own) refl
    cover-clear default x = ap (covered_under default) (meaning-clear false x)
