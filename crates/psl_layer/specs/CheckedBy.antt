-- What is known of an expression, from what is known of its parts.
use Rattle.std.specs.Prelude.{◌≡◌, ◌&&◌, Bool as Truth, true, List, [], Option, None, Some, Ok, Err, if◌then◌else◌}
use Rattle.std.specs.Option.{is_none, is_some}
use Rattle.psl_base.specs.declared.place.Place.{Place}
use Rattle.psl_lexer.specs.declared.token.Token.{Token}
use Rattle.psl_grammar.specs.declared.tree.Count as code_count
use Rattle.psl_grammar.specs.declared.tree.Expression as code_expression
use Rattle.psl_grammar.specs.declared.tree.Statement as code_statement
use Rattle.psl_tree.specs.declared.name.Name.{Name}
use Rattle.psl_sugar.specs.declared.operand.Operand.TheVariants as operands
use Rattle.psl_layer_theory.specs.FirstFlaw.{first_of, earlier}
use Rattle.psl_layer_theory.specs.Flaws.{prefix_flaws, infix_flaws, side_flaws, side_of, literal_side, is_comparison, repeated_flaws, count_flaws, is_goto, clocked_flaws, grouped_flaws, wants_boolean, wants_sequence, reference_flaws, width_in, expression_flaws}
use Rattle.psl_layer_theory.specs.Kinds.{kind_of, place_of, kind_as, prefix_kind, infix_kind, clocked_kind, grouped_kind}
use Rattle.psl_layer_theory.specs.Operators.{prefix_operator, repetition_operator}
use Rattle.psl_layer_theory.specs.declared.fault.Flaw.{Flaw}
use Rattle.psl_layer_theory.specs.declared.found.Reference.{Reference}
use Rattle.psl_layer_theory.specs.declared.found.Reference.TheVariants.{Nothing}
use Rattle.psl_layer_theory.specs.declared.found.Side.TheVariants as sides
use Rattle.psl_layer_theory.specs.declared.kind.ExpressionKind.{ExpressionKind}
use Rattle.psl_layer_theory.specs.declared.kind.ExpressionKind.TheVariants as kinds
use Rattle.psl_layer_theory.specs.declared.operator.InfixOperator.{InfixOperator}
use Rattle.psl_layer.specs.Built.{BuiltPart, operand_in}
use Rattle.psl_layer.specs.declared.elaborated.Checked.{Checked}

-- its kind, the place of its first token, what it is as a side of a comparison, and its first fault, after the
-- statements before it, in a sere or outside of one
pub record IsChecked (scope : List code_statement.Statement) (names : List Name) (in_sere : Truth) (x : code_expression.Expression) (checked : Checked) : Type 0 where
  pub kind : checked.kind ≡ kind_of scope in_sere x
  pub place : checked.place ≡ place_of x
  pub side : checked.side ≡ side_of scope names x
  pub flaw : checked.flaw ≡ first_of (expression_flaws scope names in_sere x)

-- an expression that is no side of a comparison
abbrev pub no_side : ExpressionKind → Place → Option Flaw → Checked
no_side kind place flaw = record { kind = kind; place = place; side = sides.Neither; flaw = flaw }

abbrev pub prefix_checked : Truth → Token → Checked → Checked
prefix_checked in_sere operator x =
    no_side (prefix_kind in_sere (prefix_operator operator.kind) x.kind) operator.place
    (earlier x.flaw (first_of (prefix_flaws in_sere (prefix_operator operator.kind) x.kind x.place)))

-- the faults of an operator between its operands, without those of the operands
abbrev pub own_flaws : Truth → InfixOperator → Checked → Checked → List Flaw
own_flaws in_sere operator left right =
    if is_comparison operator
    then side_flaws left.side right.side left.place
    else infix_flaws in_sere operator left.kind left.place right.kind right.place

abbrev pub infix_checked : Truth → InfixOperator → Checked → Checked → Checked
infix_checked in_sere operator left right =
    no_side (infix_kind in_sere operator left.kind right.kind) left.place
    (earlier (earlier left.flaw right.flaw) (first_of (own_flaws in_sere operator left right)))

abbrev pub postfix_checked : Checked → Checked
postfix_checked x = no_side kinds.Property x.place (earlier x.flaw (first_of (wants_sequence x.kind x.place)))

abbrev pub repeated_checked : Token → Option code_count.Count → Checked → Checked
repeated_checked opening count x =
    no_side kinds.Sequence x.place
    (earlier (earlier x.flaw (first_of (repeated_flaws (repetition_operator opening.kind) x.kind x.place)))
    (first_of (count_flaws (is_goto (repetition_operator opening.kind)) count)))

abbrev pub clocked_checked : Truth → Checked → Checked → Checked
clocked_checked in_sere x clock =
    no_side (clocked_kind in_sere x.kind) x.place
    (earlier (earlier (earlier x.flaw clock.flaw) (first_of (clocked_flaws in_sere x.kind x.place))) (first_of (wants_boolean clock.kind clock.place)))

abbrev pub grouped_checked : Truth → Token → Checked → Checked
grouped_checked in_sere opening x =
    no_side (grouped_kind x.kind) opening.place (earlier x.flaw (first_of (grouped_flaws in_sere x.kind opening.place)))

abbrev pub braced_checked : Token → Checked → Checked
braced_checked opening x = no_side kinds.Sequence opening.place (earlier x.flaw (first_of (wants_sequence x.kind x.place)))

abbrev pub repetition_checked : Token → Option code_count.Count → Checked
repetition_checked opening count =
    no_side kinds.Sequence opening.place (first_of (count_flaws (is_goto (repetition_operator opening.kind)) count))

abbrev pub literal_checked : Token → Checked
literal_checked token = record { kind = kinds.Boolean; place = token.place; side = literal_side token.kind token; flaw = None }

abbrev pub next_checked : Token → code_count.Count → Checked → Checked
next_checked word count x = no_side kinds.Property word.place (earlier x.flaw (first_of (count_flaws true (Some count))))

abbrev pub event_checked : Token → Checked → Option code_count.Count → Checked → Checked
event_checked word condition count x =
    no_side kinds.Property word.place
    (earlier (earlier (earlier condition.flaw x.flaw) (first_of (wants_boolean condition.kind condition.place))) (first_of (count_flaws true count)))

-- a path by what it is declared as and by what it stands for as a signal
abbrev pub path_checked : Option ExpressionKind → Option Token → Reference → Place → Checked
path_checked declared index found place =
    let signal = if is_some declared then Nothing else found in
    record {
      kind = kind_as declared index;
      place = place;
      side = if is_some declared && is_none index then sides.Neither else sides.Bits (width_in signal);
      flaw = first_of (if is_some declared && is_none index then [] else reference_flaws signal place);
    }

-- this is known of an expression that is no side of a comparison
abbrev pub IsNode : Checked → BuiltPart → Type 0
IsNode checked (Ok new) = (new.value.checked ≡ checked) × (operand_in new.value.sense ≡ operands.Value 0)
IsNode checked (Err refused) = Unit {0}
