use Rattle.std.proofs.Common.{arith, sym}
use Rattle.netlist.specs.declared.latch.Init.TheVariants.{Zero}
use Rattle.replay.proofs.Missing.{latch-missing, latch-next}
use Rattle.replay.proofs.bits.missing_latch.Goals as goal

pub returns-then-is_none : goal.returns-then-is_none
returns-then-is_none c =
    sym (latch-missing c.args.bits.now c.args.latches.now c.loop-latch.latch-index _ c.loop-latch-test.true c.loop-latch.invariant
    (grind (arith, c.is_none.ensures, c.if-is_none.true)))

pub loop-latch-preserved : goal.loop-latch-preserved
loop-latch-preserved c =
    latch-next c.args.bits.now c.args.latches.now c.loop-latch.latch-index (record { input = 0; output = 0; init = Zero }) c.loop-latch-test.true c.loop-latch.invariant
    (grind (arith, c.is_none.ensures, c.if-is_none.false))
