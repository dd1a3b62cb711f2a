use Rattle.std.proofs.Common.{◌≡◌, length}
use Rattle.alternating_blocks.proofs.order.owers_of.Given as goal
use Rattle.alternating_blocks.specs.Order.{AreWithin}

abbrev pub invariant-loop-turn : goal.invariant-loop-turn
invariant-loop-turn l = record { count : length l.owers.items ≡ length l.owed; within : AreWithin l.turn l.owers.items }
