use Rattle.std.proofs.Common.{◌<◌, length, subst, arith}
use Rattle.netlist.specs.Valuations.{fits_row}
use Rattle.gates_covers.specs.Points.{IsMask}
use Rattle.gates_covers.proofs.Masks.{mask-more}
use Rattle.gates_covers.proofs.points.points_of_some.Goals as goal

pub loop-place-preserved : goal.loop-place-preserved
loop-place-preserved c =
    let mask = c.points_of-points.result in
    let below : c.loop-place.place < length c.args.rows.now = omega arith in
    mask-more c.loop-place.points mask c.args.rows.now c.loop-place.place below c.loop-place.invariant (subst (λ row. IsMask c.points_of-points.result (fits_row row)) c.at.ensures c.points_of-points.ensures)
