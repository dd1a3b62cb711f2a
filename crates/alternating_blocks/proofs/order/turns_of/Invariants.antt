use Rattle.std.proofs.Common.{◌≡◌, ◌<◌, length}
use Rattle.std.specs.Prelude.{All}
use Rattle.alternating_blocks.proofs.order.turns_of.Given as goal
use Rattle.alternating_blocks.specs.Order.{VisitsWithin}

abbrev pub invariant-loop : goal.invariant-loop
invariant-loop l = record {
  turns : All (λ number. number < length l.owed) l.turns.items;
  entered : length l.entered.items ≡ length l.owed;
  visits : VisitsWithin (length l.owed) l.visits.items;
}
