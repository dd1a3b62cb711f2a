use Rattle.joint.proofs.Tests.{obligations-signals}
use Rattle.joint.proofs.neighbours.circuit_of_pair.Goals as goal

pub two_states-requires : goal.two_states-requires
two_states-requires c =
    let design = c.args.product.netlist.now in
    obligations-signals design.signals design.names c.args.product.violation.now.obligations c.soundness_law.ensures.sound.names c.requires.tests
