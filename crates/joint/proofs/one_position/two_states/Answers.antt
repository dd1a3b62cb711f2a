use Rattle.std.proofs.Common.{ℕ, ◌+◌, ◌∙◌, ◌++◌, List, ap, replicate, arith}
use Rattle.std.proofs.lemmas.Result.{err_from_is_err_and}
use Rattle.gates_theory.specs.declared.circuit.Gate.{Gate}
use Rattle.gates_theory.specs.declared.circuit.Gate.TheVariants.{Free}
use Rattle.gates_theory.specs.Relations.{variables_of}
use Rattle.joint_theory.specs.Bits.{joint_width}
use Rattle.joint_theory.specs.Reaching.{two_states}
use Rattle.joint_theory.specs.Relation.{state_terms, step_terms}
use Rattle.joint.proofs.OnePosition.{terms-large}
use Rattle.joint.proofs.one_position.two_states.Goals as goal

pub returns-in_err-add_pair-clause-large : goal.returns-in_err-add_pair-clause-large
returns-in_err-add_pair-clause-large c =
    let design = c.args.product.netlist.now in
    let automaton = c.args.product.violation.now in
    let visits = c.args.product.visits in
    let many = variables_of (two_states design automaton visits) in
    let terms : ℕ → List _ = λ width. state_terms design automaton visits 0 ++ state_terms design automaton visits width ++ step_terms design automaton visits width in
    let free = c.in_ok-free.ensures.ok ∙ ap (λ (g : List Gate). g ++ replicate (c.args.product.width + c.args.product.width + 1) Free) c.new-gates.ensures in
    let width = c.args.product.width_is in
    let p = err_from_is_err_and c.from_residual-in_err-add_pair.result c.from_residual-in_err-add_pair.ensures.1 in
    rw (p.1, p.2) (terms-large (c.args.product.width + c.args.product.width + 1) many (terms c.args.product.width) (terms (joint_width design automaton visits))
    c.free.new.self c.add_pair.new.gates c.new-held.result c.add_pair.new.held
    c.in_err-add_pair.field-0.0 (omega (arith, width)) (ap terms width) free c.new-held.ensures c.in_err-add_pair.ensures)
