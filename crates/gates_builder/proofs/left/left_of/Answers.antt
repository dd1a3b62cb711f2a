use Rattle.std.proofs.Common.{◌∙◌, ◌<◌, suc, ap, pos, Some, get_or, drop, length, add-one, rules, arith, w32}
use mir.Val.{SFits}
use Rattle.std.proofs.lemmas.Int.{to_z-of_z}
use Rattle.netlist.specs.declared.rows.Mark.TheVariants as marks
use Rattle.gates_nodes.specs.Tables.{asked, left_of, marked, with_literal}
use Rattle.gates_builder.proofs.CubeSteps.{asked-drop, asked-end, join-false, join-true, left-done, left-none, left-some}
use Rattle.gates_builder.proofs.left.left_of.Goals as goal

pub returns-then-not-branch : goal.returns-then-not-branch
returns-then-not-branch c =
    let row = c.args.row.now in
    let literals = c.args.literals.now in
    let given = c.args.given in
    let i = c.loop-i.i in
    let left = c.loop-i.left in
    let row_in : i < length row = omega arith in
    let below : i < length literals = omega arith in
    let literal = get_or c.args.literals.now c.loop-i.i (pos 0) in
    let fits_literal : SFits w32 (get_or c.args.literals.now c.loop-i.i (pos 0)) = search rules in
    let fits_marked : SFits w32 c.marked.result = search rules in
    let mark = get_or row i marks.Zero in
    let joined = simp to_z-of_z at c.in_ok-join.ensures in
    let is = simp to_z-of_z at c.marked.ensures.is in
    let fails = join-false c.in_ok-join.field-0 c.join.new.left (with_literal given (Some left) c.marked.result) c.if-not-branch.true joined ∙ ap (with_literal given (Some left)) is in
    left-none given left (marked given mark literal) (asked given (drop (suc i) row) (drop (suc i) literals)) (asked given (drop i row) (drop i literals)) (left_of given (asked given row literals))
    (asked-drop given row literals i marks.Zero (pos 0) row_in below) fails c.loop-i.invariant

pub loop-i-preserved : goal.loop-i-preserved
loop-i-preserved c =
    let row = c.args.row.now in
    let literals = c.args.literals.now in
    let given = c.args.given in
    let i = c.loop-i.i in
    let left = c.loop-i.left in
    let row_in : i < length row = omega arith in
    let below : i < length literals = omega arith in
    let literal = get_or c.args.literals.now c.loop-i.i (pos 0) in
    let fits_literal : SFits w32 (get_or c.args.literals.now c.loop-i.i (pos 0)) = search rules in
    let fits_marked : SFits w32 c.marked.result = search rules in
    let mark = get_or row i marks.Zero in
    let joined = simp to_z-of_z at c.in_ok-join.ensures in
    let is = simp to_z-of_z at c.marked.ensures.is in
    let fits = join-true c.in_ok-join.field-0 c.join.new.left (with_literal given (Some left) c.marked.result) c.if-not-branch.false joined ∙ ap (with_literal given (Some left)) is in
    rw add-one (left-some given left c.join.new.left (marked given mark literal) (asked given (drop (suc i) row) (drop (suc i) literals)) (asked given (drop i row) (drop i literals)) (left_of given (asked given row literals))
    (asked-drop given row literals i marks.Zero (pos 0) row_in below) fits c.loop-i.invariant)

pub returns : goal.returns
returns c =
    left-done c.args.given c.loop-i.left (asked c.args.given (drop c.loop-i.i c.args.row.now) (drop c.loop-i.i c.args.literals.now)) (left_of c.args.given (asked c.args.given c.args.row.now c.args.literals.now))
    (asked-end c.args.given c.args.row.now c.args.literals.now c.loop-i.i (omega arith)) c.loop-i.invariant
