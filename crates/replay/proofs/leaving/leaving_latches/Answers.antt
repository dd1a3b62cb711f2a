use Rattle.std.proofs.Common.{None}
use Rattle.netlist.specs.declared.latch.Latch.{Latch}
use Rattle.replay.proofs.Lowest.{kept-at}
use Rattle.replay.proofs.leaving.leaving_latches.Goals as goal
use Rattle.replay.specs.ByBits.{leaves_by}

pub loop-latch-preserved : goal.loop-latch-preserved
loop-latch-preserved c =
    kept-at (leaves_by c.args.at_first c.args.earlier.now c.args.values.now) (λ (latch : Latch). latch.output) None c.args.latches.now c.loop-latch.latch-index _ c.loop-latch.lowest
    c.lower_if-lowest.result c.leaves_by.result c.loop-latch-test.true c.loop-latch.invariant c.leaves_by.ensures c.lower_if-lowest.ensures
