use Rattle.std.proofs.Common.{◌≡◌, ◌<◌, length, ◌∙◌}
use Rattle.std.specs.Prelude.{All}
use Rattle.findings.proofs.names.columns.Goals as goal
use Rattle.netlist.proofs.Driving.{inputs-within, latches-within}
use Rattle.netlist.specs.declared.latch.Latch.{Latch}

pub column-requires-clause-named : goal.column-requires-clause-named
column-requires-clause-named c =
    let within : All (λ signal. signal < c.args.netlist.now.signals) c.as_slice-signal-items.result.now = rw (c.as_slice-signal-items.ensures, c.inputs.ensures)
    (inputs-within c.args.netlist.now c.soundness_law.ensures.sound) in
    rw (c.as_slice-names.ensures, c.names.ensures.names)
    (c.soundness_law.ensures.sound.named _ (within c.loop-signal.signal-index 0 c.loop-signal-test.true))

pub column-requires-in-loop-latch-clause-signal : goal.column-requires-in-loop-latch-clause-signal
column-requires-in-loop-latch-clause-signal c =
    let within : All (λ (latch : Latch). latch.output < c.args.netlist.now.signals) c.as_slice-latch-items.result.now = rw (c.as_slice-latch-items.ensures, c.latches.ensures)
    (latches-within c.args.netlist.now c.soundness_law.ensures.sound) in
    let long : length c.deref-in-loop-latch.result.now ≡ c.args.netlist.now.signals = rw (c.deref-in-loop-latch.ensures.value) (c.in_ok-first.ensures.length ∙ c.signals.ensures) in
    rw long (within c.loop-latch.latch-index _ c.loop-latch-test.true)

pub column-requires-in-loop-latch-clause-named : goal.column-requires-in-loop-latch-clause-named
column-requires-in-loop-latch-clause-named c =
    let within : All (λ (latch : Latch). latch.output < c.args.netlist.now.signals) c.as_slice-latch-items.result.now = rw (c.as_slice-latch-items.ensures, c.latches.ensures)
    (latches-within c.args.netlist.now c.soundness_law.ensures.sound) in
    rw (c.as_slice-names.ensures, c.names.ensures.names)
    (c.soundness_law.ensures.sound.named _ (within c.loop-latch.latch-index _ c.loop-latch-test.true))
