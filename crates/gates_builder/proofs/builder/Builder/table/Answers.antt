use Rattle.std.proofs.Common.{◌≡◌, ◌∙◌, sym, ap, Some, None, [], ◌∷◌, rules, arith, w32}
use mir.Val.{SFits}
use Rattle.std.proofs.lemmas.Int.{to_z-of_z}
use Rattle.gates_nodes.specs.declared.node.Node.TheVariants.{Lut}
use Rattle.gates_nodes.specs.Folding.{with_node}
use Rattle.gates_nodes.specs.Nodes.{cover_at, no_cover, variables_of}
use Rattle.gates_nodes.specs.Tables.{cubes, tabled, told_by, unless_told}
use Rattle.clauses.specs.declared.flat.TheConstants.{MOST_VARIABLES}
use Rattle.gates_builder.specs.Adding.{IsOf}
use Rattle.gates_builder.proofs.CubeSteps.{get-is, within-all, within-of}
use Rattle.gates_builder.proofs.Growing.{adds-as, adds-none, all-literals}
use Rattle.gates_builder.proofs.builder.Builder.table.Goals as goal

pub returns-in-Ok-Some : goal.returns-in-Ok-Some
returns-in-Ok-Some c =
    let now = c.args.self.now in
    let number = c.args.cover in
    let p = c.args.first in
    let q = c.args.second in
    let r = c.args.third in
    let s = c.args.fourth in
    let fits_p : SFits w32 p = search rules in
    let fits_q : SFits w32 q = search rules in
    let fits_r : SFits w32 r = search rules in
    let fits_s : SFits w32 s = search rules in
    let literal = c.in-Ok-Some.literal in
    let fits_literal : SFits w32 literal = search rules in
    let four = p ∷ q ∷ r ∷ s ∷ [] in
    let cover : cover_at now.covers number ≡ c.at.result.now = ap (λ covers. cover_at covers number) (sym c.covers.ensures) ∙ get-is c.covers.result.now number c.at.result.now no_cover c.at.ensures in
    let says = simp to_z-of_z at c.in-Ok-Some.ensures.is in
    let told : told_by now.given (cubes now.given (cover_at now.covers number).on four) (cubes now.given (cover_at now.covers number).off four) ≡ Some literal =
    ap (λ x. told_by now.given (cubes now.given x.on four) (cubes now.given x.off four)) cover
    ∙ ap (λ g. told_by g (cubes g c.at.result.now.on four) (cubes g c.at.result.now.off four)) (sym c.given-given.ensures.is) ∙ sym says ∙ c.in-Ok-Some.field-0-is in
    let each = simp to_z-of_z at (rw c.in-Ok-Some.field-0-is at c.in-Ok-Some.ensures.within) in
    let of : IsOf now literal = record { within = each (variables_of now.given now.nodes) (omega (arith, c.given-given.ensures.is)) (within-of now four c.requires.literals); literal = each MOST_VARIABLES c.given-given.ensures.few (within-all four (all-literals now four c.requires.literals)) } in
    rw to_z-of_z (adds-none now (tabled now.covers now.given now.nodes number p q r s) literal of (sym (ap (unless_told now.given now.nodes (Lut number p q r s)) told)))

pub returns-in-Ok-None : goal.returns-in-Ok-None
returns-in-Ok-None c =
    let now = c.args.self.now in
    let number = c.args.cover in
    let p = c.args.first in
    let q = c.args.second in
    let r = c.args.third in
    let s = c.args.fourth in
    let fits_p : SFits w32 p = search rules in
    let fits_q : SFits w32 q = search rules in
    let fits_r : SFits w32 r = search rules in
    let fits_s : SFits w32 s = search rules in
    let four = p ∷ q ∷ r ∷ s ∷ [] in
    let cover : cover_at now.covers number ≡ c.at.result.now = ap (λ covers. cover_at covers number) (sym c.covers.ensures) ∙ get-is c.covers.result.now number c.at.result.now no_cover c.at.ensures in
    let says = simp to_z-of_z at c.in-Ok-None.ensures.is in
    let told : told_by now.given (cubes now.given (cover_at now.covers number).on four) (cubes now.given (cover_at now.covers number).off four) ≡ None =
    ap (λ x. told_by now.given (cubes now.given x.on four) (cubes now.given x.off four)) cover
    ∙ ap (λ g. told_by g (cubes g c.at.result.now.on four) (cubes g c.at.result.now.off four)) (sym c.given-given.ensures.is) ∙ sym says ∙ c.in-Ok-None.field-0-is in
    let adds = simp to_z-of_z at c.push.ensures in
    adds-as now c.push.new.self (with_node now.given now.nodes (Lut number p q r s)) (tabled now.covers now.given now.nodes number p q r s) c.push.result (sym (ap (unless_told now.given now.nodes (Lut number p q r s)) told)) adds

pub push-requires-clause-within : goal.push-requires-clause-within
push-requires-clause-within c =
    let now = c.args.self.now in
    let p = c.args.first in
    let q = c.args.second in
    let r = c.args.third in
    let s = c.args.fourth in
    let fits_p : SFits w32 p = search rules in
    let fits_q : SFits w32 q = search rules in
    let fits_r : SFits w32 r = search rules in
    let fits_s : SFits w32 s = search rules in
    simp to_z-of_z (within-of now (p ∷ q ∷ r ∷ s ∷ []) c.requires.literals)
