use Rattle.std.proofs.Common.{rules, ◌+◌, ◌∙◌, ◌++◌, ℤ, List, ap, neg_ℤ, Some, replicate, w32}
use mir.Val.{SFits}
use Rattle.std.proofs.lemmas.Int.{to_z-of_z}
use Rattle.std.proofs.lemmas.Result.{err_from_is_err_and}
use Rattle.gates_theory.specs.declared.circuit.Gate.{Gate}
use Rattle.gates_theory.specs.declared.circuit.Gate.TheVariants.{Free}
use Rattle.run_gates.specs.Building.{Holding}
use Rattle.joint.proofs.Circuits.{circuit-is, size-state, size-step}
use Rattle.joint.proofs.circuit.circuit_of.Goals as goal

pub returns-in_err-add_state-clause-large : goal.returns-in_err-add_state-clause-large
returns-in_err-add_state-clause-large c =
    let product = c.args.product in
    let free = c.in_ok-free.ensures.ok ∙ ap (λ (g : List Gate). g ++ replicate (c.args.product.width + c.args.product.width + 1) Free) c.new-gates.ensures in
    let p = err_from_is_err_and c.from_residual-in_err-add_state.result c.from_residual-in_err-add_state.ensures.1 in
    rw (p.1, p.2) (size-state product.netlist.now product.violation.now product.visits product.width c.free.new.self c.add_state.new.gates c.new-held.result c.add_state.new.held
    c.in_err-add_state.field-0.0 product.width_is free c.new-held.ensures c.in_err-add_state.ensures)

pub returns-in_err-add_step-clause-large : goal.returns-in_err-add_step-clause-large
returns-in_err-add_step-clause-large c =
    let product = c.args.product in
    let free = c.in_ok-free.ensures.ok ∙ ap (λ (g : List Gate). g ++ replicate (c.args.product.width + c.args.product.width + 1) Free) c.new-gates.ensures in
    let fits_bad : SFits w32 c.bad.result = search rules in
    let fits_negated : SFits w32 c.negated.result = search rules in
    let negated = simp to_z-of_z at c.negated.ensures.is in
    let guarded = simp to_z-of_z at c.guard.ensures in
    let guard = guarded ∙ ap (λ (l : ℤ). let h : Holding = record { guard = Some l; literals = c.add_state.new.held.literals } in h) (negated ∙ ap neg_ℤ c.bad.ensures.is) in
    let p = err_from_is_err_and c.from_residual-in_err-add_step.result c.from_residual-in_err-add_step.ensures.1 in
    rw (p.1, p.2) (size-step product.netlist.now product.violation.now product.visits product.width c.free.new.self c.add_state.new.gates c.add_step.new.gates c.new-held.result c.add_state.new.held
    c.guard.new.self c.add_step.new.held c.in_err-add_step.field-0.0 product.width_is free c.new-held.ensures c.in_ok-add_state.ensures guard c.in_err-add_step.ensures)

pub returns-in-Ok-clause-is : goal.returns-in-Ok-clause-is
returns-in-Ok-clause-is c =
    let product = c.args.product in
    let free = c.in_ok-free.ensures.ok ∙ ap (λ (g : List Gate). g ++ replicate (c.args.product.width + c.args.product.width + 1) Free) c.new-gates.ensures in
    let fits_bad : SFits w32 c.bad.result = search rules in
    let fits_negated : SFits w32 c.negated.result = search rules in
    let negated = simp to_z-of_z at c.negated.ensures.is in
    let guarded = simp to_z-of_z at c.guard.ensures in
    let guard = guarded ∙ ap (λ (l : ℤ). let h : Holding = record { guard = Some l; literals = c.add_state.new.held.literals } in h) (negated ∙ ap neg_ℤ c.bad.ensures.is) in
    circuit-is product.netlist.now product.violation.now product.visits product.width product.width_is c.free.new.self c.add_state.new.gates c.add_step.new.gates c.new-held.result c.add_state.new.held
    c.guard.new.self c.add_step.new.held c.in-Ok.circuit
    (record { free_is = free; none_is = c.new-held.ensures; state = c.in_ok-add_state.ensures; guard = guard; step = c.in_ok-add_step.ensures })
    c.in-Ok.ensures.gates c.in-Ok.ensures.now c.in-Ok.ensures.next c.in-Ok.ensures.hold
