use Rattle.std.proofs.Common.{◌∙◌}
use Rattle.prover_held.proofs.Marks.{marked-next}
use Rattle.prover_held.proofs.inputs.input_marks.Goals as goal

pub loop-signal-preserved : goal.loop-signal-preserved
loop-signal-preserved c =
    rw c.set.ensures (marked-next c.args.netlist.now c.as_slice-signal-items.result.now c.loop-signal.signal-index c.loop-signal.marks c.soundness_law.ensures.sound
    (c.as_slice-signal-items.ensures ∙ c.inputs.ensures) c.loop-signal-test.true c.loop-signal.invariant)
