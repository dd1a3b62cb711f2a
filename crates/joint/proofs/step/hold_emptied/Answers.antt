use Rattle.std.proofs.Common.{rules, w32}
use mir.Val.{SFits}
use Rattle.std.proofs.lemmas.Int.{to_z-of_z}
use Rattle.joint_theory.specs.Relation.{emptied_term}
use Rattle.joint.proofs.Frames.{held-one}
use Rattle.joint.proofs.step.hold_emptied.Goals as goal

pub returns : goal.returns
returns c =
    let product = c.args.product in
    let emptied = c.in_ok-emptied.emptied in
    let fits_emptied : SFits w32 emptied = search rules in
    let holds = simp to_z-of_z at c.hold.ensures in
    held-one c.args.gates.now c.add_emptied.new.gates c.hold.new.gates c.args.held.now c.hold.new.self (emptied_term product.netlist.now product.violation.now product.width) emptied c.hold.result
    c.in_ok-emptied.ensures holds
