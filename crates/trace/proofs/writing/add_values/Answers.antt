use Rattle.std.proofs.Common.{arith}
use Rattle.trace.proofs.Growing.{value-more}
use Rattle.trace.proofs.writing.add_values.Goals as goal

pub loop-signal-preserved : goal.loop-signal-preserved
loop-signal-preserved c =
    value-more c.args.values.now c.args.text.now.items c.loop-signal.text.items c.add_value.new.text.items c.loop-signal.signal (omega (arith, c.loop-signal-test.true, c.requires)) c.loop-signal.invariant
    c.in_ok-add_value.ensures
