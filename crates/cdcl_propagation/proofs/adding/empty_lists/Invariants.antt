use Rattle.std.proofs.Common.{◌≡◌, ◌≤◌, [], replicate, vec_len}
use Rattle.std.specs.Vec.{vec_capacity}
use Rattle.cdcl_propagation.proofs.adding.empty_lists.Given as goal

abbrev pub invariant-loop : goal.invariant-loop
invariant-loop l = record {
  empty : l.lists.items ≡ replicate l.counter [];
  size : vec_len l.lists ≡ l.counter;
  room : l.count ≤ vec_capacity l.lists;
}
