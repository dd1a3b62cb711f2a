use Rattle.std.proofs.Common.{◌≡◌, length}
use Rattle.reach.proofs.completing.values_of.Given as goal

abbrev pub invariant-loop-signal : goal.invariant-loop-signal
invariant-loop-signal l = length l.bits ≡ l.signal-index
