use Rattle.std.proofs.Common.{◌++◌, Ok, map}
use Rattle.joint_theory.specs.Sliced.{earlier_term, kept_by, kept_signals, kept_tables, own_terms}
use Rattle.run_gates.proofs.Terms.{all-then}
use Rattle.run_terms.specs.Tables.{before_terms, valuation_terms}
use Rattle.joint.proofs.sliced.add_first.Goals as goal

pub returns : goal.returns
returns c =
    let design = c.args.product.netlist.now in
    let now = kept_by c.args.slice.now.now in
    let before = kept_by c.args.slice.now.before in
    let tables = valuation_terms design.signals 0 (kept_tables design now) in
    let tables_before = before_terms 0 (kept_tables design before) in
    let earlier = map (earlier_term 0) (kept_signals design before) in
    let own = own_terms design c.args.product.violation.now c.args.product.visits 0 in
    all-then c.args.gates.now c.add_kept_earlier.new.gates c.add_own.new.gates c.args.held.now c.add_kept_earlier.new.held c.add_own.new.held (tables ++ tables_before ++ earlier) own c.add_own.result
    (all-then c.args.gates.now c.add_kept_before.new.gates c.add_kept_earlier.new.gates c.args.held.now c.add_kept_before.new.held c.add_kept_earlier.new.held (tables ++ tables_before) earlier (Ok tt)
    (all-then c.args.gates.now c.add_kept_tables.new.gates c.add_kept_before.new.gates c.args.held.now c.add_kept_tables.new.held c.add_kept_before.new.held tables tables_before (Ok tt)
    c.in_ok-add_kept_tables.ensures c.in_ok-add_kept_before.ensures) c.in_ok-add_kept_earlier.ensures) c.add_own.ensures
