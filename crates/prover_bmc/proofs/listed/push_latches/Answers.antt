use Rattle.std.proofs.Common.{arith}
use Rattle.netlist.proofs.Driving.{latches-within}
use Rattle.prover_bmc.proofs.listed.push_latches.Goals as goal

pub of_latches-requires : goal.of_latches-requires
of_latches-requires c = rw (c.as_slice.ensures, c.latches.ensures)
    (λ k d lt. omega (arith, latches-within c.args.netlist.now c.soundness_law.ensures.sound k d lt, c.requires.frame))
