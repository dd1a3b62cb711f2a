use Rattle.std.proofs.Common.{◌≡◌, length}
use Rattle.alternating_blocks.proofs.order.no_owers.Given as goal
use Rattle.alternating_blocks.specs.Order.{AreWithin}

abbrev pub invariant-loop-made : goal.invariant-loop-made
invariant-loop-made l = record { count : length l.owers.items ≡ l._made; within : AreWithin 0 l.owers.items }
