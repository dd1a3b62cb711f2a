use Rattle.std.proofs.Common.{ℕ, Ok, map, subst}
use Rattle.std.specs.List.{range_with_len}
use Rattle.gates_theory.specs.Terms.{Term}
use Rattle.gates_theory.specs.Terms.Term.{Negation}
use Rattle.joint_theory.specs.Bits.{numbers_of}
use Rattle.joint_theory.specs.Relation.{unasked_owed, unasked_pending}
use Rattle.run_gates.specs.Building.{BuildsAll}
use Rattle.run_gates.proofs.Terms.{all-then}
use Rattle.joint.proofs.support.add_support.Goals as goal

pub returns : goal.returns
returns c =
    let product = c.args.product in
    let owed : ℕ → Term = λ number. Negation (unasked_owed product.netlist.now product.violation.now product.width number) in
    let pending : ℕ → Term = λ number. Negation (unasked_pending product.netlist.now product.violation.now product.width number) in
    let first : BuildsAll c.args.gates.now c.add_each.new.gates c.args.held.now c.add_each.new.held (map owed (numbers_of product.violation.now)) (Ok tt) =
    subst (λ (n : ℕ). BuildsAll c.args.gates.now c.add_each.new.gates c.args.held.now c.add_each.new.held (map owed (range_with_len 0 n)) (Ok tt))
    c.obligations-obligations.ensures c.in_ok-add_each.ensures in
    let second : BuildsAll c.add_each.new.gates c.add_each-2.new.gates c.add_each.new.held c.add_each-2.new.held (map pending (numbers_of product.violation.now)) c.add_each-2.result =
    subst (λ (n : ℕ). BuildsAll c.add_each.new.gates c.add_each-2.new.gates c.add_each.new.held c.add_each-2.new.held (map pending (range_with_len 0 n)) c.add_each-2.result)
    c.obligations-obligations.ensures c.add_each-2.ensures in
    all-then c.args.gates.now c.add_each.new.gates c.add_each-2.new.gates c.args.held.now c.add_each.new.held c.add_each-2.new.held (map owed (numbers_of product.violation.now))
    (map pending (numbers_of product.violation.now)) c.add_each-2.result first second
