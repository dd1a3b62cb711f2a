use Rattle.std.proofs.Common.{◌++◌, Ok}
use Rattle.std.proofs.lemmas.Result.{err_from_is_err_and}
use Rattle.joint_theory.specs.Relation.{state_terms, step_terms}
use Rattle.run_gates.proofs.Terms.{all-first, all-then}
use Rattle.joint.proofs.one_position.add_pair.Goals as goal

pub returns-in_err-add_state : goal.returns-in_err-add_state
returns-in_err-add_state c =
    let product = c.args.product in
    let fault = c.in_err-add_state.field-0.0 in
    let first = state_terms product.netlist.now product.violation.now product.visits 0 in
    let second = state_terms product.netlist.now product.violation.now product.visits product.width in
    let step = step_terms product.netlist.now product.violation.now product.visits product.width in
    let p = err_from_is_err_and c.from_residual.result c.from_residual.ensures.1 in
    rw (p.1, p.2) (all-first c.args.gates.now c.add_state.new.gates c.args.held.now c.add_state.new.held (first ++ second) step fault
    (all-first c.args.gates.now c.add_state.new.gates c.args.held.now c.add_state.new.held first second fault c.in_err-add_state.ensures))

pub returns-in_err-add_state-2 : goal.returns-in_err-add_state-2
returns-in_err-add_state-2 c =
    let product = c.args.product in
    let fault = c.in_err-add_state-2.field-0.0 in
    let first = state_terms product.netlist.now product.violation.now product.visits 0 in
    let second = state_terms product.netlist.now product.violation.now product.visits product.width in
    let step = step_terms product.netlist.now product.violation.now product.visits product.width in
    let p = err_from_is_err_and c.from_residual-in_err-add_state-2.result c.from_residual-in_err-add_state-2.ensures.1 in
    rw (p.1, p.2) (all-first c.args.gates.now c.add_state-2.new.gates c.args.held.now c.add_state-2.new.held (first ++ second) step fault
    (all-then c.args.gates.now c.add_state.new.gates c.add_state-2.new.gates c.args.held.now c.add_state.new.held c.add_state-2.new.held first second _
    c.in_ok-add_state.ensures c.in_err-add_state-2.ensures))

pub returns : goal.returns
returns c =
    let product = c.args.product in
    let first = state_terms product.netlist.now product.violation.now product.visits 0 in
    let second = state_terms product.netlist.now product.violation.now product.visits product.width in
    let step = step_terms product.netlist.now product.violation.now product.visits product.width in
    all-then c.args.gates.now c.add_state-2.new.gates c.add_step.new.gates c.args.held.now c.add_state-2.new.held c.add_step.new.held (first ++ second) step c.add_step.result
    (all-then c.args.gates.now c.add_state.new.gates c.add_state-2.new.gates c.args.held.now c.add_state.new.held c.add_state-2.new.held first second (Ok tt)
    c.in_ok-add_state.ensures c.in_ok-add_state-2.ensures) c.add_step.ensures
