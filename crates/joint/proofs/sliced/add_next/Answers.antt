use Rattle.std.proofs.Common.{◌++◌, Ok, map}
use Rattle.joint_theory.specs.Sliced.{earlier_term, kept_by, kept_signals, kept_tables, own_terms}
use Rattle.run_gates.proofs.Terms.{all-then}
use Rattle.run_terms.specs.Tables.{valuation_terms}
use Rattle.joint.proofs.sliced.add_next.Goals as goal

pub returns : goal.returns
returns c =
    let design = c.args.product.netlist.now in
    let width = c.args.product.width in
    let tables = valuation_terms design.signals width (kept_tables design (kept_by c.args.slice.now.now)) in
    let earlier = map (earlier_term width) (kept_signals design (kept_by c.args.slice.now.before)) in
    let own = own_terms design c.args.product.violation.now c.args.product.visits width in
    all-then c.args.gates.now c.add_kept_earlier.new.gates c.add_own.new.gates c.args.held.now c.add_kept_earlier.new.held c.add_own.new.held (tables ++ earlier) own c.add_own.result
    (all-then c.args.gates.now c.add_kept_tables.new.gates c.add_kept_earlier.new.gates c.args.held.now c.add_kept_tables.new.held c.add_kept_earlier.new.held tables earlier (Ok tt)
    c.in_ok-add_kept_tables.ensures c.in_ok-add_kept_earlier.ensures) c.add_own.ensures
