use Rattle.std.proofs.Common.{◌≡◌, ◌-◌, ℕ, List, map, length, Bor}
use Rattle.blif_hierarchy.proofs.Halving.{Halves}
use Rattle.blif_hierarchy.proofs.recursion.first_back.Given as goal

abbrev pub invariant-loop-low : goal.invariant-loop-low
invariant-loop-low l = record {
  size : length l.lists.items ≡ length l.initial.lists.items;
  halves : Halves (map (λ (list : Bor (List ℕ)). list.now) l.initial.lists.items) (map (λ (list : Bor (List ℕ)). list.now) l.lists.items) l.drivers l.model l.low l.high;
}

abbrev pub decreases-loop-low : goal.decreases-loop-low
decreases-loop-low l = l.high - l.low
