use Rattle.bounded.proofs.Cones.{tested-within}
use Rattle.bounded.proofs.framing.search_cone.Goals as goal

pub cone_with_latches-requires : goal.cone_with_latches-requires
cone_with_latches-requires c =
    rw (c.as_slice.ensures, c.in_ok-tested.ensures) (tested-within c.args.netlist.now c.soundness_law.ensures.sound c.args.violation.now c.requires)
