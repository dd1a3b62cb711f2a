use Rattle.std.proofs.Common.{◌≡◌, ℕ, List, map, take, Bor}
use Rattle.blif_hierarchy.proofs.recursion.lists_of.Given as goal

abbrev pub invariant-loop-list : goal.invariant-loop-list
invariant-loop-list l = map (λ (list : Bor (List ℕ)). list.now) l.lists.items ≡ take l.list-index l.placed
