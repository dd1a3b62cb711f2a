use Rattle.std.proofs.Common.{map}
use Rattle.joint_theory.specs.Bits.{numbers_of}
use Rattle.joint_theory.specs.Relation.{pending_term, unary_terms}
use Rattle.run_gates.proofs.Terms.{all-then}
use Rattle.joint.proofs.state.add_own.Goals as goal

pub returns : goal.returns
returns c =
    let design = c.args.product.netlist.now in
    let automaton = c.args.product.violation.now in
    let pending = map (pending_term design automaton c.args.base) (numbers_of automaton) in
    let unary = unary_terms design automaton c.args.product.visits c.args.base in
    all-then c.args.gates.now c.add_each.new.gates c.add_each-2.new.gates c.args.held.now c.add_each.new.held c.add_each-2.new.held pending unary c.add_each-2.result
    (simp c.obligations.ensures at c.in_ok-add_each.ensures) c.add_each-2.ensures
