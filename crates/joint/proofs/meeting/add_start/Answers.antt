use Rattle.std.proofs.Common.{arith}
use Rattle.joint_theory.proofs.Within.{start-within}
use Rattle.joint.proofs.meeting.add_start.Goals as goal

pub add_units-requires-clause-within : goal.add_units-requires-clause-within
add_units-requires-clause-within c =
    let product = c.args.product in
    let width = c.args.product.width_is in
    rw (c.as_slice.ensures, c.in-Ok.ensures) (start-within product.netlist.now product.violation.now product.visits
    c.soundness_law.ensures.sound c.automaton_law.ensures c.requires.tests c.args.product.width (omega (arith, width)))
