use Rattle.std.proofs.Common.{ℕ, suc, ◌++◌, [], ◌∷◌, Ok, map, subst, add-one}
use Rattle.std.specs.List.{range_with_len}
use Rattle.joint_theory.specs.Bits.{numbers_of}
use Rattle.joint_theory.specs.Relation.{anew_term, count_term, emptied_term}
use Rattle.run_gates.specs.Building.{BuildsAll}
use Rattle.run_gates.proofs.Terms.{all-then}
use Rattle.joint.proofs.step.add_breakpoint.Goals as goal

pub returns : goal.returns
returns c =
    let design = c.args.product.netlist.now in
    let automaton = c.args.product.violation.now in
    let visits = c.args.product.visits in
    let width = c.args.product.width in
    let emptied = emptied_term design automaton width ∷ [] in
    let anew = map (anew_term design automaton width) (numbers_of automaton) in
    let counts = map (count_term design automaton width) (range_with_len 0 (suc visits)) in
    let second : BuildsAll c.hold_emptied.new.gates c.add_each.new.gates c.hold_emptied.new.held c.add_each.new.held anew (Ok tt) =
    subst (λ (n : ℕ). BuildsAll c.hold_emptied.new.gates c.add_each.new.gates c.hold_emptied.new.held c.add_each.new.held (map (anew_term design automaton width) (range_with_len 0 n)) (Ok tt))
    c.obligations.ensures c.in_ok-add_each.ensures in
    let third : BuildsAll c.add_each.new.gates c.add_each-2.new.gates c.add_each.new.held c.add_each-2.new.held counts c.add_each-2.result =
    subst (λ (n : ℕ). BuildsAll c.add_each.new.gates c.add_each-2.new.gates c.add_each.new.held c.add_each-2.new.held (map (count_term design automaton width) (range_with_len 0 n)) c.add_each-2.result)
    (add-one visits) c.add_each-2.ensures in
    all-then c.args.gates.now c.add_each.new.gates c.add_each-2.new.gates c.args.held.now c.add_each.new.held c.add_each-2.new.held (emptied ++ anew) counts c.add_each-2.result
    (all-then c.args.gates.now c.hold_emptied.new.gates c.add_each.new.gates c.args.held.now c.hold_emptied.new.held c.add_each.new.held emptied anew (Ok tt) c.in_ok-hold_emptied.ensures second) third
