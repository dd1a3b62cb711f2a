use Rattle.std.proofs.Common.{◌++◌, Ok, map}
use Rattle.joint_theory.specs.Bits.{numbers_of}
use Rattle.joint_theory.specs.Relation.{earlier_terms, pending_term, unary_terms}
use Rattle.run_terms.specs.Tables.{before_terms, valuation_terms}
use Rattle.run_gates.proofs.Terms.{all-then}
use Rattle.joint.proofs.state.add_state.Goals as goal

pub returns : goal.returns
returns c =
    let design = c.args.product.netlist.now in
    let automaton = c.args.product.violation.now in
    let visits = c.args.product.visits in
    let base = c.args.base in
    let tables = valuation_terms design.signals base design.tables in
    let before = before_terms base design.tables in
    let earlier = earlier_terms design base in
    let pending = map (pending_term design automaton base) (numbers_of automaton) in
    let unary = unary_terms design automaton visits base in
    let first = simp (c.position_at-position.ensures.signals, c.position_at-position.ensures.base, c.as_slice.ensures, c.tables.ensures) at c.in_ok-add_tables.ensures in
    let second = simp (c.position_at-position.ensures.base, c.as_slice-2.ensures, c.tables-2.ensures) at c.in_ok-add_tables_before.ensures in
    let third = simp c.signals.ensures at c.in_ok-add_each.ensures in
    let fourth = simp c.obligations.ensures at c.in_ok-add_each-2.ensures in
    all-then c.args.gates.now c.add_each-2.new.gates c.add_each-3.new.gates c.args.held.now c.add_each-2.new.held c.add_each-3.new.held (tables ++ before ++ earlier ++ pending) unary c.add_each-3.result
    (all-then c.args.gates.now c.add_each.new.gates c.add_each-2.new.gates c.args.held.now c.add_each.new.held c.add_each-2.new.held (tables ++ before ++ earlier) pending (Ok tt)
    (all-then c.args.gates.now c.add_tables_before.new.gates c.add_each.new.gates c.args.held.now c.add_tables_before.new.held c.add_each.new.held (tables ++ before) earlier (Ok tt)
    (all-then c.args.gates.now c.add_tables.new.gates c.add_tables_before.new.gates c.args.held.now c.add_tables.new.held c.add_tables_before.new.held tables before (Ok tt) first second)
    third) fourth) c.add_each-3.ensures
