use Rattle.alternating_blocks.proofs.order.all_visits.Given as goal
use Rattle.alternating_blocks.specs.Order.{VisitsWithin}

abbrev pub invariant-loop-number : goal.invariant-loop-number
invariant-loop-number l = VisitsWithin l.count l.visits.items
