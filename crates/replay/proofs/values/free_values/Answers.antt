use Rattle.std.proofs.Common.{◌<◌}
use Rattle.std.specs.Prelude.{All}
use Rattle.netlist.proofs.Driving.{latches-within}
use Rattle.netlist.specs.declared.latch.Latch.{Latch}
use Rattle.replay.proofs.values.free_values.Goals as goal

pub bounds-of_signals-latch : goal.bounds-of_signals-latch
bounds-of_signals-latch c =
    let all : All (λ (latch : Latch). latch.output < c.args.netlist.now.signals) c.as_slice-latches.result.now =
    rw (c.as_slice-latches.ensures, c.latches.ensures) (latches-within c.args.netlist.now c.soundness_law.ensures.sound) in
    rw c.requires.signals (all c.loop-place-2.place _ c.loop-place-2-test.true)
