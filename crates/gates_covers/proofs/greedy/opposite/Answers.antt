use Rattle.std.proofs.Common.{◌≡◌, ◌<◌, ◌++◌, ◌∷◌, [], length, sym, ◌∙◌, arith}
use Rattle.gates_covers.proofs.Taking.{all-taken, row-kept, row-taken, row-width}
use Rattle.gates_covers.proofs.greedy.opposite.Goals as goal
use Rattle.gates_covers.proofs.greedy.opposite.Goals.{then-is_taken+in_ok-push, else-is_taken}

pub push-requires : goal.push-requires
push-requires c =
    let below : c.loop-place.place < length c.args.candidates.now = omega arith in
    let four = row-width c.args.candidates.now c.loop-place.place c.at-row.result.now c.requires below c.at-row.ensures in
    λ k d lt. c.loop-place.invariant.width k d lt ∙ sym four

pub loop-place-preserved : goal.loop-place-preserved
loop-place-preserved c =
    let rows = c.args.rows.now in
    let all = c.args.candidates.now in
    let others = c.loop-place.others in
    let i = c.loop-place.place in
    let row = c.at-row.result.now in
    let below : c.loop-place.place < length c.args.candidates.now = omega arith in
    let says = c.is_taken.ensures rows others row c.points_of-points.ensures c.points_of_some-fitted.ensures c.loop-place.invariant.covered in
    elim c.if-is_taken.branch [
      | then-is_taken+in_ok-push w ↦
          let pushed : c.if-is_taken.others ≡ c.loop-place.others ++ c.at-row.result.now ∷ [] = w.others-is ∙ w.in_ok-push.ensures.ok in
          rw (pushed, w.covered-is) (row-taken rows all others row i c.loop-place.covered c.points_of-points.result c.requires below c.at-row.ensures
          (sym says ∙ w.if-is_taken.true) c.points_of-points.ensures c.loop-place.invariant.taken c.loop-place.invariant.covered c.loop-place.invariant.width)
      | else-is_taken w ↦
          rw (w.others-is, w.covered-is) (record {
            taken = row-kept rows all others row i below c.at-row.ensures (sym says ∙ w.if-is_taken.false) c.loop-place.invariant.taken;
            covered = c.loop-place.invariant.covered;
            width = c.loop-place.invariant.width;
          })
    ]

pub returns : goal.returns
returns c = all-taken c.args.rows.now c.args.candidates.now c.loop-place.others c.loop-place.place c.requires (omega arith) c.loop-place.invariant.taken
