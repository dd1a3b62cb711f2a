use Rattle.std.proofs.Common.{◌∙◌, ◌<◌, suc, ap, pos, drop, get_or, length, subst, to_z, add-one, rules, arith, w32}
use mir.Val.{SFits}
use Rattle.std.proofs.lemmas.Int.{to_z-of_z}
use Rattle.std.proofs.lemmas.Result.{err_from_is_err_and}
use Rattle.std.specs.Prelude.{Ok, Err}
use Rattle.netlist.specs.declared.rows.Mark.TheVariants as marks
use Rattle.gates_nodes.specs.Folding.{conjoined, conjoined_all}
use Rattle.gates_nodes.specs.Tables.{asked, marked}
use Rattle.gates_builder.specs.Adding.{Adds}
use Rattle.gates_builder.proofs.CubeSteps.{asked-drop, asked-end}
use Rattle.gates_builder.proofs.Loops.{SoFar, all-err, all-step, joining, so_far-done}
use Rattle.gates_builder.proofs.builder.Builder.row.Goals as goal

pub loop-i-preserved : goal.loop-i-preserved
loop-i-preserved c =
    let now = c.args.self.now in
    let i = c.loop-i.i in
    let row = c.args.row.now in
    let literals = c.args.literals.now in
    let output = to_z w32 c.loop-i.output-bits in
    let row_in : i < length row = omega arith in
    let below : i < length literals = omega arith in
    let literal = get_or c.args.literals.now c.loop-i.i (pos 0) in
    let fits_literal : SFits w32 (get_or c.args.literals.now c.loop-i.i (pos 0)) = search rules in
    let fits_marked : SFits w32 c.marked.result = search rules in
    let fits_result : SFits w32 c.in_ok-output.output = search rules in
    let mark = get_or row i marks.Zero in
    let whole = conjoined_all now.given now.nodes (asked now.given row literals) in
    let left = asked now.given (drop (suc i) row) (drop (suc i) literals) in
    let is = (simp to_z-of_z at c.marked.ensures.is) ∙ ap (λ g. marked g mark literal) c.given-given.ensures.is in
    let before = subst (λ xs. SoFar (joining now.given) now c.loop-i.self output xs whole) (asked-drop now.given row literals i marks.Zero (pos 0) row_in below) c.loop-i.invariant in
    let adds = simp to_z-of_z at c.in_ok-output.ensures in
    let same = subst (λ x. Adds c.loop-i.self c.and.new.self (conjoined c.loop-i.self.given c.loop-i.self.nodes output x) (Ok c.in_ok-output.output)) is adds in
    rw (to_z-of_z, add-one) (all-step now c.loop-i.self c.and.new.self output (marked now.given mark literal) c.in_ok-output.output left whole before same)

pub returns-in_err-output : goal.returns-in_err-output
returns-in_err-output c =
    let now = c.args.self.now in
    let i = c.loop-i.i in
    let row = c.args.row.now in
    let literals = c.args.literals.now in
    let output = to_z w32 c.loop-i.output-bits in
    let row_in : i < length row = omega arith in
    let below : i < length literals = omega arith in
    let literal = get_or c.args.literals.now c.loop-i.i (pos 0) in
    let fits_literal : SFits w32 (get_or c.args.literals.now c.loop-i.i (pos 0)) = search rules in
    let fits_marked : SFits w32 c.marked.result = search rules in
    let mark = get_or row i marks.Zero in
    let whole = conjoined_all now.given now.nodes (asked now.given row literals) in
    let left = asked now.given (drop (suc i) row) (drop (suc i) literals) in
    let is = (simp to_z-of_z at c.marked.ensures.is) ∙ ap (λ g. marked g mark literal) c.given-given.ensures.is in
    let before = subst (λ xs. SoFar (joining now.given) now c.loop-i.self output xs whole) (asked-drop now.given row literals i marks.Zero (pos 0) row_in below) c.loop-i.invariant in
    let failed = simp to_z-of_z at c.in_err-output.ensures in
    let same = subst (λ x. Adds c.loop-i.self c.and.new.self (conjoined c.loop-i.self.given c.loop-i.self.nodes output x) (Err c.in_err-output.field-0.0)) is failed in
    let p = err_from_is_err_and c.from_residual.result c.from_residual.ensures.1 in
    rw (p.1, p.2) (all-err now c.loop-i.self c.and.new.self output (marked now.given mark literal) left whole c.in_err-output.field-0.0 before same)

pub returns : goal.returns
returns c =
    let now = c.args.self.now in
    let i = c.loop-i.i in
    let row = c.args.row.now in
    let literals = c.args.literals.now in
    so_far-done (joining now.given) now c.loop-i.self (to_z w32 c.loop-i.output-bits) (asked now.given (drop i row) (drop i literals)) (conjoined_all now.given now.nodes (asked now.given row literals))
    (asked-end now.given row literals i (omega arith)) c.loop-i.invariant
