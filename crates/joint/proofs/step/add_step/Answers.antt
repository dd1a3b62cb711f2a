use Rattle.std.proofs.Common.{◌++◌, Ok, Err}
use Rattle.std.proofs.lemmas.Result.{err_from_is_err_and}
use Rattle.joint_theory.specs.Relation.{breakpoint_terms, met_terms, support_terms}
use Rattle.run_gates.proofs.Terms.{all-first, all-then}
use Rattle.joint.proofs.step.add_step.Goals as goal

pub returns-in_err-add_breakpoint : goal.returns-in_err-add_breakpoint
returns-in_err-add_breakpoint c =
    let product = c.args.product in
    let met = met_terms product.netlist.now product.violation.now product.width in
    let breakpoint = breakpoint_terms product.netlist.now product.violation.now product.visits product.width in
    let support = support_terms product.netlist.now product.violation.now product.width in
    let fault = c.in_err-add_breakpoint.field-0.0 in
    let p = err_from_is_err_and c.from_residual-in_err-add_breakpoint.result c.from_residual-in_err-add_breakpoint.ensures.1 in
    rw (p.1, p.2) (all-first c.args.gates.now c.add_breakpoint.new.gates c.args.held.now c.add_breakpoint.new.held (met ++ breakpoint) support fault
    (all-then c.args.gates.now c.add_met.new.gates c.add_breakpoint.new.gates c.args.held.now c.add_met.new.held c.add_breakpoint.new.held met breakpoint (Err fault)
    c.in_ok-add_met.ensures c.in_err-add_breakpoint.ensures))

pub returns : goal.returns
returns c =
    let product = c.args.product in
    let met = met_terms product.netlist.now product.violation.now product.width in
    let breakpoint = breakpoint_terms product.netlist.now product.violation.now product.visits product.width in
    let support = support_terms product.netlist.now product.violation.now product.width in
    all-then c.args.gates.now c.add_breakpoint.new.gates c.add_support.new.gates c.args.held.now c.add_breakpoint.new.held c.add_support.new.held (met ++ breakpoint) support c.add_support.result
    (all-then c.args.gates.now c.add_met.new.gates c.add_breakpoint.new.gates c.args.held.now c.add_met.new.held c.add_breakpoint.new.held met breakpoint (Ok tt)
    c.in_ok-add_met.ensures c.in_ok-add_breakpoint.ensures) c.add_support.ensures
