use Rattle.std.proofs.Common.{◌≡◌, length}
use Rattle.alternating_blocks.proofs.order.owed_of_each.Given as goal
use Rattle.alternating_blocks.specs.Order.{AreWithin}

abbrev pub invariant-loop-number : goal.invariant-loop-number
invariant-loop-number l = record { count : length l.owed.items ≡ l.number; within : AreWithin (length l.automaton.obligations) l.owed.items }
