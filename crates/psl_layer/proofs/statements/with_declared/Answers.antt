use Rattle.std.proofs.Common.{sym, ◌∙◌}
use Rattle.psl_layer.proofs.Growing.{clock_grown, property_grown, sequence_grown}
use Rattle.psl_layer.proofs.statements.with_declared.Goals as goal

pub returns-in-Sequence : goal.returns-in-Sequence
returns-in-Sequence c =
    sequence_grown c.args.scope c.args.before.now c.args.word.now c.args.name.now c.args.meaning c.into_sequence.result c.with_name.result
    (sym c.declaration_word.ensures ∙ c.in-Sequence.is) c.into_sequence.ensures c.with_name.ensures.before
    (rw c.as_slice-text.ensures at c.with_name.ensures.named) c.with_name.ensures.clock

pub returns-in-Property : goal.returns-in-Property
returns-in-Property c =
    property_grown c.args.scope c.args.before.now c.args.word.now c.args.name.now c.args.meaning c.into_formula.result c.with_name-in-Property.result
    (sym c.declaration_word.ensures ∙ c.in-Property.is) c.into_formula.ensures c.with_name-in-Property.ensures.before
    (rw c.as_slice-text.ensures at c.with_name-in-Property.ensures.named) c.with_name-in-Property.ensures.clock

pub returns-in-DefaultClock : goal.returns-in-DefaultClock
returns-in-DefaultClock c =
    clock_grown c.args.scope c.with_clock.result c.args.before.now c.args.word.now c.args.name.now c.args.meaning c.into_boolean.result
    (sym c.declaration_word.ensures ∙ c.in-DefaultClock.is) c.into_boolean.ensures c.with_clock.ensures.before c.with_clock.ensures.declared c.with_clock.ensures.clock
