use Rattle.std.proofs.Common.{length}
use Rattle.alternating_blocks.proofs.order.enter.Given as goal
use Rattle.alternating_blocks.specs.Order.{VisitsWithin}

abbrev pub invariant-loop-next : goal.invariant-loop-next
invariant-loop-next l = VisitsWithin (length l.owed) l.visits.items
