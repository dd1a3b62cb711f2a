use Rattle.std.proofs.Common.{◌<◌}
use Rattle.joint_theory.proofs.Steps.{atoms-at}
use Rattle.joint.proofs.step.OwedMetAsking.add_asked.Goals as goal

pub add_positive-requires-clause-below : goal.add_positive-requires-clause-below
add_positive-requires-clause-below c =
    let product = c.args.self.now.product in
    rw (c.position.ensures.signals, c.delta-asked.ensures.shown)
    (atoms-at (λ atom. atom.signal < product.netlist.now.signals) product.violation.now.obligations c.args.number c.requires.allowed)
