use Rattle.std.proofs.Common.{sym, length}
use Rattle.trace_buses.proofs.Ranges.{all-more, one-fails}
use Rattle.trace_buses.proofs.carried.all_carried.Goals as goal
use Rattle.trace_buses.specs.Buses.{is_carried}

pub returns-then-not-is_carried : goal.returns-then-not-is_carried
returns-then-not-is_carried c =
    sym (one-fails (is_carried c.args.names.now c.args.vectors.now) (length c.args.names.now) c.loop-signal.signal c.loop-signal-test.true (sym c.if-not-is_carried.ensures))

pub loop-signal-preserved : goal.loop-signal-preserved
loop-signal-preserved c = all-more (is_carried c.args.names.now c.args.vectors.now) c.loop-signal.signal c.loop-signal.invariant (sym c.if-not-is_carried.ensures)
