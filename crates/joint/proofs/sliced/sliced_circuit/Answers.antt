use Rattle.std.proofs.Common.{ℕ, ◌+◌, ◌∙◌, ◌++◌, List, ap, replicate, arith}
use Rattle.std.proofs.lemmas.Result.{err_from_is_err_and}
use Rattle.gates_theory.specs.declared.circuit.Gate.{Gate}
use Rattle.gates_theory.specs.declared.circuit.Gate.TheVariants.{Free}
use Rattle.gates_theory.specs.Relations.{variables_of}
use Rattle.gates_theory.specs.Terms.{Term}
use Rattle.joint_theory.specs.Bits.{joint_width}
use Rattle.joint_theory.specs.Sliced.{kept_by, sliced_first, sliced_next, sliced_pair, sliced_step}
use Rattle.joint.proofs.OnePosition.{terms-large}
use Rattle.joint.proofs.sliced.sliced_circuit.Goals as goal

pub returns-in_err-add_sliced_pair-clause-large : goal.returns-in_err-add_sliced_pair-clause-large
returns-in_err-add_sliced_pair-clause-large c =
    let design = c.args.product.netlist.now in
    let automaton = c.args.product.violation.now in
    let visits = c.args.product.visits in
    let now = kept_by c.args.slice.now.now in
    let before = kept_by c.args.slice.now.before in
    let many = variables_of (sliced_pair design automaton visits now before) in
    let terms : ℕ → List Term =
    λ width. sliced_first design automaton visits now before ++ sliced_next design automaton visits width now before ++ sliced_step design automaton visits width now before in
    let free = c.in_ok-free.ensures.ok ∙ ap (λ (g : List Gate). g ++ replicate (c.args.product.width + c.args.product.width + 1) Free) c.new-gates.ensures in
    let wide = c.args.product.width_is in
    let p = err_from_is_err_and c.from_residual-in_err-add_sliced_pair.result c.from_residual-in_err-add_sliced_pair.ensures.1 in
    rw (p.1, p.2) (terms-large (c.args.product.width + c.args.product.width + 1) many (terms c.args.product.width) (terms (joint_width design automaton visits))
    c.free.new.self c.add_sliced_pair.new.gates c.new-held.result c.add_sliced_pair.new.held
    c.in_err-add_sliced_pair.field-0.0 (omega (arith, wide)) (ap terms c.args.product.width_is) free c.new-held.ensures c.in_err-add_sliced_pair.ensures)
