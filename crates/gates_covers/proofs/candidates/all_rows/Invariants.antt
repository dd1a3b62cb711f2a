use Rattle.std.proofs.Common.{◌≡◌, length, All}
use Rattle.std.specs.List.{flat_map, range_with_len}
use Rattle.gates_covers.specs.Greedy.{rows_asking}
use Rattle.gates_covers.proofs.candidates.all_rows.Given as goal

abbrev pub invariant-loop-count : goal.invariant-loop-count
invariant-loop-count l = record {
  added : l.rows ≡ flat_map rows_asking (range_with_len 0 l.count);
  width : All (λ row. length row ≡ 4) l.rows;
}
