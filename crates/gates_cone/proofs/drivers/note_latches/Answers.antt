use Rattle.std.proofs.Common.{◌<◌, List, length, ap, ◌∙◌, arith}
use Rattle.netlist.specs.declared.latch.Latch.{Latch}
use Rattle.gates_cone.specs.Drivers.{no_latch}
use Rattle.gates_cone.proofs.Noting.{latch-inside, noted-latch_read}
use Rattle.gates_cone.proofs.drivers.note_latches.Goals as goal

pub bounds-drivers-latches : goal.bounds-drivers-latches
bounds-drivers-latches c =
    let design = c.args.netlist.now in
    let shown = c.as_slice-latches.result.now in
    let shown_is = c.as_slice-latches.ensures ∙ c.latches.ensures in
    let lt : c.loop-number.number < length design.latches = omega (arith, ap (λ (l : List Latch). length l) shown_is) in
    latch-inside design c.soundness_law.ensures.sound c.loop-number.number c.loop-number.drivers shown no_latch lt shown_is c.loop-number.invariant.size

pub loop-number-preserved : goal.loop-number-preserved
loop-number-preserved c =
    let design = c.args.netlist.now in
    let shown = c.as_slice-latches.result.now in
    let shown_is = c.as_slice-latches.ensures ∙ c.latches.ensures in
    let lt : c.loop-number.number < length design.latches = omega (arith, ap (λ (l : List Latch). length l) shown_is) in
    noted-latch_read design c.soundness_law.ensures.sound c.loop-number.number c.loop-number.drivers shown no_latch lt shown_is c.loop-number.invariant
