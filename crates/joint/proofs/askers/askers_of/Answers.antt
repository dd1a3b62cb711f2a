use Rattle.std.proofs.Common.{◌∙◌, ◌++◌, [], ◌∷◌, sym, arith}
use Rattle.std.proofs.lemmas.Bool.{cond-false, cond-true}
use Rattle.joint.proofs.AskedRows.{askers-more, row-is, row-length, rows-length}
use Rattle.joint.proofs.askers.askers_of.Goals as goal
use Rattle.joint.proofs.askers.askers_of.Goals.{then-at+in_ok-push, else-at}

pub at-requires : goal.at-requires
at-requires c = omega (arith, rows-length c.args.violation.now c.args.rows.now c.requires.rows)

pub at-requires-in-loop-other : goal.at-requires-in-loop-other
at-requires-in-loop-other c =
    let is = row-is c.args.violation.now c.args.rows.now c.loop-other.other c.at.result.now c.requires.rows (omega arith) c.at.ensures in
    omega (arith, row-length c.args.violation.now c.loop-other.other c.at.result.now is)

pub loop-other-preserved : goal.loop-other-preserved
loop-other-preserved c =
    let is = row-is c.args.violation.now c.args.rows.now c.loop-other.other c.at.result.now c.requires.rows (omega arith) c.at.ensures in
    let more = askers-more c.args.violation.now c.args.number c.loop-other.other c.loop-other.numbers c.if-at.numbers c.at.result.now c.at-in-loop-other.result.now (omega arith) c.requires.below
    is c.at-in-loop-other.ensures c.loop-other.invariant.so_far c.loop-other.invariant.below
    (elim c.if-at.branch [
      | then-at+in_ok-push w ↦ w.numbers-is ∙ w.in_ok-push.ensures.ok
          ∙ sym (cond-true c.at-in-loop-other.result.now (c.loop-other.numbers ++ c.loop-other.other ∷ []) c.loop-other.numbers w.if-at.true)
      | else-at w ↦ w.numbers-is ∙ sym (cond-false c.at-in-loop-other.result.now (c.loop-other.numbers ++ c.loop-other.other ∷ []) c.loop-other.numbers w.if-at.false)
    ]) in
    record { so_far = more.0; below = more.1 }
