use Rattle.std.proofs.Common.{◌≤◌, length, arith}
use Rattle.gates_theory.specs.Relations.{variables_of}
use Rattle.joint_theory.specs.Sliced.{kept_by, sliced_pair}
use Rattle.joint_theory.proofs.Sliced.{sliced-closed}
use Rattle.joint.proofs.OnePosition.{alone-sound, alone-wide}
use Rattle.joint.proofs.Tests.{obligations-signals}
use Rattle.joint.proofs.sliced.sliced_formula.Goals as goal

pub sliced_circuit-requires : goal.sliced_circuit-requires
sliced_circuit-requires c =
    let design = c.args.product.netlist.now in
    obligations-signals design.signals design.names c.args.product.violation.now.obligations c.soundness_law.ensures.sound.names c.requires.tests

pub held_to-requires-clause-sound : goal.held_to-requires-clause-sound
held_to-requires-clause-sound c =
    let product = c.args.product in
    let now = kept_by c.args.slice.now.now in
    let before = kept_by c.args.slice.now.before in
    let relation = sliced_pair product.netlist.now product.violation.now product.visits now before in
    let closed = sliced-closed product.netlist.now product.violation.now product.visits now before c.soundness_law.ensures.sound c.automaton_law.ensures c.requires.tests in
    alone-sound relation closed c.in_ok-circuit.circuit c.in_ok-circuit.ensures.is

pub held_to-requires-clause-some : goal.held_to-requires-clause-some
held_to-requires-clause-some c =
    let product = c.args.product in
    let now = kept_by c.args.slice.now.now in
    let before = kept_by c.args.slice.now.before in
    let relation = sliced_pair product.netlist.now product.violation.now product.visits now before in
    let closed = sliced-closed product.netlist.now product.violation.now product.visits now before c.soundness_law.ensures.sound c.automaton_law.ensures c.requires.tests in
    let wide : variables_of relation ≤ length c.in_ok-circuit.circuit.gates = alone-wide relation closed c.in_ok-circuit.circuit c.in_ok-circuit.ensures.is in
    omega (arith, wide)
