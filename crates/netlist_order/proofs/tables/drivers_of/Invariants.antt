use Rattle.std.proofs.Common.{◌≡◌, ℕ, ◌<◌, ◌≤◌, length, get_or, drop, All, IfSome, None}
use Rattle.netlist_order.proofs.Drivers.{first_from}
use Rattle.netlist_order.proofs.tables.drivers_of.Given as goal

abbrev pub invariant-loop-left : goal.invariant-loop-left
invariant-loop-left l = record {
  few : l.left ≤ length l.tables;
  sized : length l.drivers.items ≡ l.signals;
  first : (signal : ℕ) → get_or l.drivers.items signal None ≡ first_from (drop l.left l.tables) l.left signal;
  within : All (λ driver. IfSome driver (λ table. table < length l.tables)) l.drivers.items;
}

abbrev pub decreases-loop-left : goal.decreases-loop-left
decreases-loop-left l = l.left
