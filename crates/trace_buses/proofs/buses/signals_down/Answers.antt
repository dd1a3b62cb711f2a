use Rattle.std.proofs.Common.{◌∙◌, ◌-◌, ap, sym, Some}
use Rattle.psl_layer_theory.specs.Texts.{indexed_text}
use Rattle.trace_buses.proofs.Ranges.{none-gathered, one-gathered}
use Rattle.trace_buses.proofs.buses.signals_down.Goals as goal
use Rattle.trace_buses.specs.Buses.{signal_named}

pub returns-in_default : goal.returns-in_default
returns-in_default c =
    let names = c.args.names.now in
    let text = c.args.text.now in
    let high = c.args.high in
    sym (none-gathered (λ distance. signal_named names (indexed_text text (high - distance))) c.loop-distance.distance c.args.count c.loop-distance-test.true
    (ap (signal_named names) (sym (c.as_slice.ensures ∙ c.in_ok-name.ensures)) ∙ sym c.in_default.ensures))

pub loop-distance-preserved : goal.loop-distance-preserved
loop-distance-preserved c =
    let names = c.args.names.now in
    let text = c.args.text.now in
    let high = c.args.high in
    one-gathered (λ distance. signal_named names (indexed_text text (high - distance))) c.loop-distance.distance c.in-Some.signal c.loop-distance.signals c.loop-distance.invariant
    (ap (signal_named names) (sym (c.as_slice.ensures ∙ c.in_ok-name.ensures)) ∙ sym c.in-Some.ensures)
    ∙ ap Some (sym c.in_ok-push.ensures.ok)
