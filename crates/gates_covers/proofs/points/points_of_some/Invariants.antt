use Rattle.std.proofs.Common.{take}
use Rattle.gates_nodes.specs.Nodes.{fits_some}
use Rattle.gates_covers.specs.Points.{IsMask}
use Rattle.gates_covers.proofs.points.points_of_some.Given as goal

abbrev pub invariant-loop-place : goal.invariant-loop-place
invariant-loop-place l = IsMask l.points (fits_some (take l.place l.rows))
