use Rattle.std.proofs.Common.{◌++◌, Ok}
use Rattle.std.proofs.lemmas.Result.{err_from_is_err_and}
use Rattle.joint_theory.specs.Sliced.{kept_by, sliced_first, sliced_next, sliced_step}
use Rattle.run_gates.proofs.Terms.{all-first, all-then}
use Rattle.joint.proofs.sliced.add_sliced_pair.Goals as goal

pub returns-in_err-add_first : goal.returns-in_err-add_first
returns-in_err-add_first c =
    let product = c.args.product in
    let now = kept_by c.args.slice.now.now in
    let before = kept_by c.args.slice.now.before in
    let fault = c.in_err-add_first.field-0.0 in
    let first = sliced_first product.netlist.now product.violation.now product.visits now before in
    let next = sliced_next product.netlist.now product.violation.now product.visits product.width now before in
    let step = sliced_step product.netlist.now product.violation.now product.visits product.width now before in
    let p = err_from_is_err_and c.from_residual.result c.from_residual.ensures.1 in
    rw (p.1, p.2) (all-first c.args.gates.now c.add_first.new.gates c.args.held.now c.add_first.new.held (first ++ next) step fault
    (all-first c.args.gates.now c.add_first.new.gates c.args.held.now c.add_first.new.held first next fault c.in_err-add_first.ensures))

pub returns-in_err-add_next : goal.returns-in_err-add_next
returns-in_err-add_next c =
    let product = c.args.product in
    let now = kept_by c.args.slice.now.now in
    let before = kept_by c.args.slice.now.before in
    let fault = c.in_err-add_next.field-0.0 in
    let first = sliced_first product.netlist.now product.violation.now product.visits now before in
    let next = sliced_next product.netlist.now product.violation.now product.visits product.width now before in
    let step = sliced_step product.netlist.now product.violation.now product.visits product.width now before in
    let p = err_from_is_err_and c.from_residual-in_err-add_next.result c.from_residual-in_err-add_next.ensures.1 in
    rw (p.1, p.2) (all-first c.args.gates.now c.add_next.new.gates c.args.held.now c.add_next.new.held (first ++ next) step fault
    (all-then c.args.gates.now c.add_first.new.gates c.add_next.new.gates c.args.held.now c.add_first.new.held c.add_next.new.held first next _
    c.in_ok-add_first.ensures c.in_err-add_next.ensures))

pub returns : goal.returns
returns c =
    let product = c.args.product in
    let now = kept_by c.args.slice.now.now in
    let before = kept_by c.args.slice.now.before in
    let first = sliced_first product.netlist.now product.violation.now product.visits now before in
    let next = sliced_next product.netlist.now product.violation.now product.visits product.width now before in
    let step = sliced_step product.netlist.now product.violation.now product.visits product.width now before in
    all-then c.args.gates.now c.add_next.new.gates c.add_sliced_step.new.gates c.args.held.now c.add_next.new.held c.add_sliced_step.new.held (first ++ next) step c.add_sliced_step.result
    (all-then c.args.gates.now c.add_first.new.gates c.add_next.new.gates c.args.held.now c.add_first.new.held c.add_next.new.held first next (Ok tt)
    c.in_ok-add_first.ensures c.in_ok-add_next.ensures) c.add_sliced_step.ensures
