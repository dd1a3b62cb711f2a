use Rattle.std.proofs.Common.{sym, ◌∙◌}
use Rattle.psl_layer.proofs.Declaring.{declared-new, declared-again}
use Rattle.psl_layer.proofs.scope.declare.Goals as goal

pub returns-then-contains_key : goal.returns-then-contains_key
returns-then-contains_key c = declared-again c.args.declared.now c.args.text.now c.args.meaning (sym c.contains_key.ensures ∙ c.if-contains_key.true)

pub returns : goal.returns
returns c =
    declared-new c.args.declared.now c.insert.new.self c.args.text.now c.args.meaning c.in_ok-insert.ensures.updates (sym c.contains_key.ensures ∙ c.if-contains_key.false)
