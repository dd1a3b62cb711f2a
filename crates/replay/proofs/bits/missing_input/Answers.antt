use Rattle.std.proofs.Common.{arith, sym, ℕ, None}
use Rattle.std.specs.Prelude.{is_none, slice_index_or}
use Rattle.replay.proofs.Missing.{found-next, none-next}
use Rattle.replay.proofs.bits.missing_input.Goals as goal

pub returns-then-is_none : goal.returns-then-is_none
returns-then-is_none c =
    sym (found-next (λ (signal : ℕ). is_none (slice_index_or c.args.bits.now signal None)) c.args.signals.now c.loop-signal.signal-index 0 c.loop-signal-test.true c.loop-signal.invariant
    (grind (arith, c.is_none.ensures, c.if-is_none.true)))

pub loop-signal-preserved : goal.loop-signal-preserved
loop-signal-preserved c =
    none-next (λ (signal : ℕ). is_none (slice_index_or c.args.bits.now signal None)) c.args.signals.now c.loop-signal.signal-index 0 c.loop-signal-test.true c.loop-signal.invariant
    (grind (arith, c.is_none.ensures, c.if-is_none.false))
