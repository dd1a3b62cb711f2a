use Rattle.std.proofs.Common.{rules, true, w32}
use mir.Val.{SFits}
use Rattle.std.proofs.lemmas.Int.{to_z-of_z}
use Rattle.std.proofs.lemmas.Result.{err_from_is_err_and}
use Rattle.joint.specs.Guards.{asker_bit}
use Rattle.joint_theory.specs.Relation.{pending_still, unasked}
use Rattle.joint.proofs.Chains.{chain-builds, chain-fails, unasked-chain}
use Rattle.joint.proofs.support.add_unasked_still.Goals as goal

pub returns-in_err-still : goal.returns-in_err-still
returns-in_err-still c =
    let design = c.args.product.netlist.now in
    let automaton = c.args.product.violation.now in
    let askers = c.args.askers.now in
    let p = err_from_is_err_and c.from_residual.result c.from_residual.ensures.1 in
    rw (p.1, p.2) (chain-fails (λ t. unasked design automaton (asker_bit design automaton true) c.args.number t askers)
    (unasked-chain design automaton (asker_bit design automaton true) c.args.number askers) c.args.gates.now c.add_still.new.gates
    (pending_still design automaton c.args.product.width c.args.number) c.in_err-still.field-0.0 c.in_err-still.ensures)

pub returns : goal.returns
returns c =
    let design = c.args.product.netlist.now in
    let automaton = c.args.product.violation.now in
    let askers = c.args.askers.now in
    let fits : SFits w32 c.in_ok-still.still = search rules in
    let rest = simp to_z-of_z at c.add_unasked.ensures in
    chain-builds (λ t. unasked design automaton (asker_bit design automaton true) c.args.number t askers)
    (unasked-chain design automaton (asker_bit design automaton true) c.args.number askers) c.args.gates.now c.add_still.new.gates c.add_unasked.new.gates
    (pending_still design automaton c.args.product.width c.args.number) c.in_ok-still.still c.add_unasked.result c.in_ok-still.ensures rest
