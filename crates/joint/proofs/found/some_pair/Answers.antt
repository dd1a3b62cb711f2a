use Rattle.std.proofs.Common.{◌≤◌, length, arith}
use Rattle.gates_theory.specs.Relations.{variables_of}
use Rattle.joint_theory.specs.Reaching.{two_states}
use Rattle.joint_theory.proofs.Pairs.{two-closed}
use Rattle.joint.proofs.OnePosition.{alone-sound, alone-wide}
use Rattle.joint.proofs.Tests.{obligations-signals}
use Rattle.joint.proofs.found.some_pair.Goals as goal

pub alone-requires-clause-sound : goal.alone-requires-clause-sound
alone-requires-clause-sound c =
    let product = c.args.product in
    let relation = two_states product.netlist.now product.violation.now product.visits in
    let closed = two-closed product.netlist.now product.violation.now product.visits c.soundness_law.ensures.sound c.automaton_law.ensures c.requires.tests in
    alone-sound relation closed c.in_ok-circuit.circuit c.in_ok-circuit.ensures.is

pub alone-requires-clause-some : goal.alone-requires-clause-some
alone-requires-clause-some c =
    let product = c.args.product in
    let relation = two_states product.netlist.now product.violation.now product.visits in
    let closed = two-closed product.netlist.now product.violation.now product.visits c.soundness_law.ensures.sound c.automaton_law.ensures c.requires.tests in
    let wide : variables_of relation ≤ length c.in_ok-circuit.circuit.gates = alone-wide relation closed c.in_ok-circuit.circuit c.in_ok-circuit.ensures.is in
    omega (arith, wide)

pub returns-clause-fits : goal.returns-clause-fits
returns-clause-fits c =
    let product = c.args.product in
    let relation = two_states product.netlist.now product.violation.now product.visits in
    let closed = two-closed product.netlist.now product.violation.now product.visits c.soundness_law.ensures.sound c.automaton_law.ensures c.requires.tests in
    let wide : variables_of relation ≤ length c.in_ok-circuit.circuit.gates = alone-wide relation closed c.in_ok-circuit.circuit c.in_ok-circuit.ensures.is in
    let width = c.args.product.width_is in
    omega (arith, wide, width, c.in_ok-cnf.ensures.variables)

pub two_states-requires : goal.two_states-requires
two_states-requires c =
    let design = c.args.product.netlist.now in
    obligations-signals design.signals design.names c.args.product.violation.now.obligations c.soundness_law.ensures.sound.names c.requires.tests
