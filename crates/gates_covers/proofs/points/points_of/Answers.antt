use Rattle.gates_covers.proofs.Masks.{mask-row}
use Rattle.gates_covers.proofs.points.points_of.Goals as goal

pub returns : goal.returns
returns c = mask-row c.args.row.now c.points_at.result c.points_at-2.result c.points_at-3.result c.points_at-4.result c.points_at.ensures c.points_at-2.ensures c.points_at-3.ensures c.points_at-4.ensures
