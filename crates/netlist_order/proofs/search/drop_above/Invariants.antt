use Rattle.std.proofs.Common.{◌≡◌, ℕ, ◌<◌, ◌≤◌, length, take, slice_index, vec_len}
use Rattle.netlist_order.proofs.search.drop_above.Given as goal

abbrev pub invariant-loop-place : goal.invariant-loop-place
invariant-loop-place l = record {
  fits : length l.places.items ≤ length l.initial.places.items;
  kept : l.places.items ≡ take (length l.places.items) l.initial.places.items;
  above : (i : ℕ) → length l.places.items ≤ i → i < length l.initial.places.items → l.limit < slice_index l.initial.places.items i;
}

abbrev pub decreases-loop-place : goal.decreases-loop-place
decreases-loop-place l = vec_len l.places
