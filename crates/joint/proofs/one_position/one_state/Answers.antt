use Rattle.std.proofs.Common.{refl, ◌∙◌, ◌++◌, List, ap, replicate, arith}
use Rattle.std.proofs.lemmas.Result.{err_from_is_err_and}
use Rattle.gates_theory.specs.declared.circuit.Gate.{Gate}
use Rattle.gates_theory.specs.declared.circuit.Gate.TheVariants.{Free}
use Rattle.gates_theory.specs.Relations.{variables_of}
use Rattle.joint_theory.specs.Reaching.{one_state}
use Rattle.joint_theory.specs.Relation.{state_terms}
use Rattle.joint.proofs.OnePosition.{terms-large}
use Rattle.joint.proofs.one_position.one_state.Goals as goal

pub returns-in_err-add_state-clause-large : goal.returns-in_err-add_state-clause-large
returns-in_err-add_state-clause-large c =
    let product = c.args.product in
    let many = variables_of (one_state product.netlist.now product.violation.now product.visits) in
    let terms = state_terms product.netlist.now product.violation.now product.visits 0 in
    let free = c.in_ok-free.ensures.ok ∙ ap (λ (g : List Gate). g ++ replicate c.args.product.width Free) c.new-gates.ensures in
    let width = product.width_is in
    let p = err_from_is_err_and c.from_residual-in_err-add_state.result c.from_residual-in_err-add_state.ensures.1 in
    rw (p.1, p.2) (terms-large product.width many terms terms c.free.new.self c.add_state.new.gates c.new-held.result c.add_state.new.held
    c.in_err-add_state.field-0.0 (omega (arith, width)) refl free c.new-held.ensures c.in_err-add_state.ensures)
