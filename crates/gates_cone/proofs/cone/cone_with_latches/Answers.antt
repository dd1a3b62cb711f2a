use Rattle.std.proofs.Common.{◌<◌, map}
use Rattle.std.proofs.lemmas.List.Elements.{All-append, All-map}
use Rattle.netlist.specs.declared.latch.Latch.{Latch}
use Rattle.netlist.proofs.Driving.{latches-within}
use Rattle.gates_cone.proofs.cone.cone_with_latches.Goals as goal

pub cone_of-requires : goal.cone_of-requires
cone_of-requires c =
    let design = c.args.netlist.now in
    rw (c.as_slice-2.ensures, c.in_ok-all.ensures, c.as_slice.ensures, c.latches.ensures)
    (All-append (λ signal. signal < c.args.netlist.now.signals) c.args.signals.now (map (λ (latch : Latch). latch.output) design.latches) c.requires
    (All-map (λ signal. signal < c.args.netlist.now.signals) (λ (latch : Latch). latch.output) design.latches (latches-within design c.soundness_law.ensures.sound)))
