use Rattle.std.proofs.Common.{◌≡◌, ◌∙◌, ◌+◌, ◌<◌, List, ℤ, ℕ, false, length, get_or, arith, sym, subst}
use Rattle.std.specs.Prelude.{IsTrue}
use Rattle.std.specs.List.{list_all}
use Rattle.gates_theory.specs.declared.circuit.Gate.{Gate}
use Rattle.gates_theory.specs.Circuits.{gates_hold, gates_within}
use Rattle.clauses.specs.Models.{is_true}
use Rattle.run_terms.specs.Formulas.{values_of}
use Rattle.joint_theory.specs.Bits.{joint_width}
use Rattle.joint_theory.specs.Reaching.{two_states}
use Rattle.joint_theory.proofs.Pairs.{two-closed}
use Rattle.joint.proofs.FoundPairs.{found-neighbours}
use Rattle.joint.proofs.OnePosition.{alone-sound}
use Rattle.joint.proofs.neighbours.neighbours_by.Goals as goal

pub values_of_gates-requires : goal.values_of_gates-requires
values_of_gates-requires c =
    let product = c.args.product in
    let closed = two-closed product.netlist.now product.violation.now product.visits c.soundness_law.ensures.sound c.automaton_law.ensures c.requires.tests in
    let sound = alone-sound (two_states product.netlist.now product.violation.now product.visits) closed c.args.circuit.now c.requires.circuit in
    subst (λ (gates : List Gate). IsTrue (gates_within 0 gates)) (sym c.as_slice.ensures) sound.gates

pub all_true-requires : goal.all_true-requires
all_true-requires c =
    let product = c.args.product in
    let closed = two-closed product.netlist.now product.violation.now product.visits c.soundness_law.ensures.sound c.automaton_law.ensures c.requires.tests in
    let sound = alone-sound (two_states product.netlist.now product.violation.now product.visits) closed c.args.circuit.now c.requires.circuit in
    rw (c.in_ok-values.ensures.length, c.as_slice.ensures, c.as_slice-then-are_at-2.ensures) sound.hold

pub returns-then-are_at-2 : goal.returns-then-are_at-2
returns-then-are_at-2 c = λ are.
    let product = c.args.product in
    let design = product.netlist.now in
    let automaton = product.violation.now in
    let values = c.in_ok-values.values in
    let bits = c.args.bits.now in
    let next = c.args.next.now in
    let long : length bits ≡ joint_width design automaton product.visits = omega (arith, c.args.product.width_is, c.len.ensures) in
    let also : length next ≡ joint_width design automaton product.visits = omega (arith, c.args.product.width_is, c.len-else-len-width.ensures) in
    found-neighbours design automaton product.visits c.soundness_law.ensures.sound c.automaton_law.ensures c.requires.tests c.args.circuit.now c.requires.circuit values bits next
    (subst (λ (gates : List Gate). IsTrue (gates_hold (values_of values) 0 gates)) c.as_slice.ensures c.in_ok-values.ensures.hold)
    (subst (λ (literals : List ℤ). IsTrue (list_all (is_true (values_of values)) literals)) c.as_slice-then-are_at-2.ensures (sym c.all_true.ensures ∙ are))
    long also (c.are_at.ensures c.if-are_at.true)
    (subst (λ (w : ℕ). (place : ℕ) → place < length next → get_or values (w + place) false ≡ get_or next place false) c.args.product.width_is
    (c.are_at-then-are_at.ensures c.if-are_at-2.true))
