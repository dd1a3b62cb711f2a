use Rattle.std.proofs.Common.{arith}
use Rattle.joint.proofs.Soundness.{is-sound, is-wide, start-is_within}
use Rattle.joint.proofs.facts.circuit_is_sound.Goals as goal

pub returns : goal.returns
returns c =
    let product = c.args.product in
    let sound = c.soundness_law.ensures.sound in
    let right = c.automaton_law.ensures in
    let wide = is-wide product.netlist.now product.violation.now product.visits sound right c.requires.tests c.args.circuit.now c.requires.circuit in
    let width = product.width_is in
    record {
      netlist = sound;
      automaton = right;
      sound = is-sound product.netlist.now product.violation.now product.visits sound right c.requires.tests c.args.circuit.now c.requires.circuit;
      some = omega (arith, wide);
      start = start-is_within product.netlist.now product.violation.now product.visits sound right c.requires.tests c.args.circuit.now c.requires.circuit;
      width = omega (arith, wide, width);
    }
