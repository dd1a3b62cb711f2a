use Rattle.std.proofs.Common.{◌+◌}
use Rattle.alternating_blocks.proofs.order.add_ower.Given as goal
use Rattle.alternating_blocks.specs.Order.{AreWithin}

abbrev pub invariant-loop-number : goal.invariant-loop-number
invariant-loop-number l = AreWithin (l.turn + 1) l.owers
