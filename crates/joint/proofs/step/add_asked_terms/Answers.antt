use Rattle.std.proofs.Common.{ℕ, Ok, map, subst}
use Rattle.std.specs.List.{range_with_len}
use Rattle.joint_theory.specs.Bits.{numbers_of}
use Rattle.joint_theory.specs.Relation.{owed_term, put_off_term}
use Rattle.run_gates.specs.Building.{BuildsAll}
use Rattle.run_gates.proofs.Terms.{all-then}
use Rattle.joint.proofs.step.add_asked_terms.Goals as goal

pub returns : goal.returns
returns c =
    let design = c.args.product.netlist.now in
    let automaton = c.args.product.violation.now in
    let width = c.args.product.width in
    let owed = map (owed_term design automaton width) (numbers_of automaton) in
    let put_off = map (put_off_term design automaton width) (numbers_of automaton) in
    let first : BuildsAll c.args.gates.now c.add_each.new.gates c.args.held.now c.add_each.new.held owed (Ok tt) =
    subst (λ (n : ℕ). BuildsAll c.args.gates.now c.add_each.new.gates c.args.held.now c.add_each.new.held (map (owed_term design automaton width) (range_with_len 0 n)) (Ok tt))
    c.obligations-obligations.ensures c.in_ok-add_each.ensures in
    let second : BuildsAll c.add_each.new.gates c.add_each-2.new.gates c.add_each.new.held c.add_each-2.new.held put_off c.add_each-2.result =
    subst (λ (n : ℕ). BuildsAll c.add_each.new.gates c.add_each-2.new.gates c.add_each.new.held c.add_each-2.new.held (map (put_off_term design automaton width) (range_with_len 0 n)) c.add_each-2.result)
    c.obligations-obligations.ensures c.add_each-2.ensures in
    all-then c.args.gates.now c.add_each.new.gates c.add_each-2.new.gates c.args.held.now c.add_each.new.held c.add_each-2.new.held owed put_off c.add_each-2.result first second
