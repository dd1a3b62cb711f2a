use Rattle.std.proofs.Common.{refl}
use Rattle.std.proofs.lemmas.Result.{err_from_is_err_and}
use Rattle.joint_theory.specs.Bits.{joint_width}
use Rattle.joint.proofs.Circuits.{size-free}
use Rattle.joint.proofs.Tests.{obligations-signals}
use Rattle.joint.proofs.making.joint.Goals as goal

pub returns-in_err-product-clause-large : goal.returns-in_err-product-clause-large
returns-in_err-product-clause-large c =
    let design = c.args.netlist.now in
    let automaton = c.args.violation.now in
    let p = err_from_is_err_and c.from_residual.result c.from_residual.ensures.1 in
    rw (p.1, p.2) (λ _. size-free design automaton c.args.visits (joint_width design automaton c.args.visits) refl c.in_err-product.ensures.large)

pub circuit_of-requires : goal.circuit_of-requires
circuit_of-requires c =
    let design = c.args.netlist.now in
    rw (c.in_ok-product.ensures.netlist, c.in_ok-product.ensures.violation)
    (obligations-signals design.signals design.names c.args.violation.now.obligations c.soundness_law.ensures.sound.names c.requires.tests)
