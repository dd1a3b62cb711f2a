use Rattle.std.proofs.Common.{◌≡◌, ◌∙◌, ap, sym, Ok, Err, arith}
use Rattle.std.specs.Prelude.{decimal}
use Rattle.command_line.proofs.Numbers.{parsed}
use Rattle.command_line.proofs.number.number.Goals as goal

pub returns-in_default-clause-none : goal.returns-in_default-clause-none
returns-in_default-clause-none c _ number is =
    let same : Ok c.in-Ok.number ≡ Ok number = sym c.in-Ok.is ∙ parsed _ _ number _ c.parse.result (omega arith) is c.parse.ensures.value.0 in
    let one : c.in-Ok.number ≡ number = cc in
    let form : c.args.word.now ≡ decimal c.in-Ok.number = is.form ∙ ap decimal (sym one) in
    let yes = c.is_form.ensures.1 form in
    cc

pub returns-in_default-2-clause-none : goal.returns-in_default-2-clause-none
returns-in_default-2-clause-none c _ number is =
    let same : Ok c.in-Ok.number ≡ Ok number = sym c.in-Ok.is ∙ parsed _ _ number _ c.parse.result (omega arith) is c.parse.ensures.value.0 in
    let one : c.in-Ok.number ≡ number = cc in
    omega arith

pub returns-in_default-3-clause-none : goal.returns-in_default-3-clause-none
returns-in_default-3-clause-none c _ number is =
    let same : Ok c.in-Ok.number ≡ Ok number = sym c.in-Ok.is ∙ parsed _ _ number _ c.parse.result (omega arith) is c.parse.ensures.value.0 in
    let one : c.in-Ok.number ≡ number = cc in
    omega arith

pub returns-in_default-4-clause-none : goal.returns-in_default-4-clause-none
returns-in_default-4-clause-none c _ number is =
    let same : Err c.in_default.field-0 ≡ Ok number = sym c.in_default.is ∙ parsed _ _ number _ c.parse.result (omega arith) is c.parse.ensures.value.0 in
    cc
