use Rattle.std.proofs.Common.{◌≡◌, ◌+◌, ◌<◌, ◌∷◌, pos, drop, get_or, length, subst, to_z, rules, arith, w32}
use mir.Val.{SFits}
use Rattle.std.proofs.lemmas.Int.{to_z-of_z}
use Rattle.std.proofs.lemmas.List.{drop_more}
use Rattle.std.proofs.lemmas.Result.{err_from_is_err_and}
use Rattle.gates_nodes.specs.Folding.{conjoined_all}
use Rattle.gates_builder.proofs.Loops.{SoFar, all-err, all-step, joining}
use Rattle.gates_builder.proofs.builder.Builder.all.Goals as goal

pub loop-i-preserved : goal.loop-i-preserved
loop-i-preserved c =
    let now = c.args.self.now in
    let i = c.loop-i.i in
    let literals = c.args.literals.now in
    let output = to_z w32 c.loop-i.output-bits in
    let below : i < length literals = omega arith in
    let literal = get_or c.args.literals.now c.loop-i.i (pos 0) in
    let fits_literal : SFits w32 (get_or c.args.literals.now c.loop-i.i (pos 0)) = search rules in
    let fits_result : SFits w32 c.in_ok-output.output = search rules in
    let whole = conjoined_all now.given now.nodes literals in
    let next : drop i literals ≡ literal ∷ drop (i + 1) literals = drop_more literals i (pos 0) below in
    let before = subst (λ left. SoFar (joining now.given) now c.loop-i.self output left whole) next c.loop-i.invariant in
    let adds = simp to_z-of_z at c.in_ok-output.ensures in
    rw to_z-of_z (all-step now c.loop-i.self c.and.new.self output literal c.in_ok-output.output (drop (i + 1) literals) whole before adds)

pub returns-in_err-output : goal.returns-in_err-output
returns-in_err-output c =
    let now = c.args.self.now in
    let i = c.loop-i.i in
    let literals = c.args.literals.now in
    let output = to_z w32 c.loop-i.output-bits in
    let below : i < length literals = omega arith in
    let literal = get_or c.args.literals.now c.loop-i.i (pos 0) in
    let fits_literal : SFits w32 (get_or c.args.literals.now c.loop-i.i (pos 0)) = search rules in
    let whole = conjoined_all now.given now.nodes literals in
    let next : drop i literals ≡ literal ∷ drop (i + 1) literals = drop_more literals i (pos 0) below in
    let before = subst (λ left. SoFar (joining now.given) now c.loop-i.self output left whole) next c.loop-i.invariant in
    let failed = simp to_z-of_z at c.in_err-output.ensures in
    let p = err_from_is_err_and c.from_residual.result c.from_residual.ensures.1 in
    rw (p.1, p.2) (all-err now c.loop-i.self c.and.new.self output literal (drop (i + 1) literals) whole c.in_err-output.field-0.0 before failed)
