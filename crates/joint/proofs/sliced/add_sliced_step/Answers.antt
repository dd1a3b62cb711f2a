use Rattle.std.proofs.Common.{◌++◌, Ok}
use Rattle.joint_theory.specs.Relation.{breakpoint_terms, support_terms}
use Rattle.joint_theory.specs.Sliced.{asked_terms, kept_by, sliced_moves}
use Rattle.run_gates.proofs.Terms.{all-then}
use Rattle.joint.proofs.sliced.add_sliced_step.Goals as goal

pub returns : goal.returns
returns c =
    let design = c.args.product.netlist.now in
    let automaton = c.args.product.violation.now in
    let width = c.args.product.width in
    let moves = sliced_moves design width (kept_by c.args.slice.now.now) (kept_by c.args.slice.now.before) in
    let asked = asked_terms design automaton width in
    let breakpoint = breakpoint_terms design automaton c.args.product.visits width in
    let support = support_terms design automaton width in
    all-then c.args.gates.now c.add_breakpoint.new.gates c.add_support.new.gates c.args.held.now c.add_breakpoint.new.held c.add_support.new.held (moves ++ asked ++ breakpoint) support c.add_support.result
    (all-then c.args.gates.now c.add_asked_terms.new.gates c.add_breakpoint.new.gates c.args.held.now c.add_asked_terms.new.held c.add_breakpoint.new.held (moves ++ asked) breakpoint (Ok tt)
    (all-then c.args.gates.now c.add_sliced_moves.new.gates c.add_asked_terms.new.gates c.args.held.now c.add_sliced_moves.new.held c.add_asked_terms.new.held moves asked (Ok tt)
    c.in_ok-add_sliced_moves.ensures c.in_ok-add_asked_terms.ensures) c.in_ok-add_breakpoint.ensures) c.add_support.ensures
