use Rattle.std.proofs.Common.{◌≡◌, ◌==◌, ◌++◌, count_by, length, map, All}
use Rattle.std.specs.List.{filter, range_with_len}
use Rattle.gates_covers.specs.Greedy.{asks, row_at}
use Rattle.gates_covers.proofs.candidates.push_asking.Given as goal

abbrev pub invariant-loop-number : goal.invariant-loop-number
invariant-loop-number l = record {
  added : l.rows ≡ l.initial.rows ++ filter (λ row. count_by asks row == l.count) (map row_at (range_with_len 0 l.number));
  width : All (λ row. length row ≡ 4) l.rows;
}
