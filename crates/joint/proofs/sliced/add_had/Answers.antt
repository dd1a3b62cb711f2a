use Rattle.std.proofs.Common.{rules, ◌∙◌, ℤ, ap, w32, subst, [], ◌∷◌}
use mir.Val.{SFits}
use Rattle.std.proofs.lemmas.Int.{to_z-of_z}
use Rattle.gates_theory.specs.Terms.Term.{Literal}
use Rattle.run_gates.specs.Building.{BuildsAll}
use Rattle.run_gates.proofs.Terms.{held-literal}
use Rattle.run_terms.specs.Positions.{had}
use Rattle.joint.proofs.sliced.add_had.Goals as goal

pub returns : goal.returns
returns c =
    let fits_had : SFits w32 c.had.result = search rules in
    let held = simp to_z-of_z at c.hold.ensures in
    subst (λ (l : ℤ). BuildsAll c.args.gates.now c.hold.new.gates c.args.held.now c.hold.new.self (Literal l ∷ []) c.hold.result)
    (c.had.ensures.is ∙ ap had c.position_at.ensures.base)
    (held-literal c.args.gates.now c.hold.new.gates c.args.held.now c.hold.new.self c.had.result c.hold.result c.had.ensures.literal held)
