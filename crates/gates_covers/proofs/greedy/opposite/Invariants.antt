use Rattle.std.proofs.Common.{◌≡◌, [], fold, length, take, All}
use Rattle.gates_nodes.specs.Nodes.{fits_some}
use Rattle.gates_covers.specs.Greedy.{with_taken}
use Rattle.gates_covers.specs.Points.{IsMask}
use Rattle.gates_covers.proofs.greedy.opposite.Given as goal

abbrev pub invariant-loop-place : goal.invariant-loop-place
invariant-loop-place l = record {
  taken : l.others ≡ fold (with_taken l.rows) [] (take l.place l.candidates);
  covered : IsMask l.covered (fits_some l.others);
  width : All (λ row. length row ≡ 4) l.others;
}
