use Rattle.std.proofs.Common.{◌≡◌, length}
use Rattle.test_circuits.proofs.netlists.bits.Given as goal

abbrev pub invariant-loop-digit : goal.invariant-loop-digit
invariant-loop-digit l = length l.bits ≡ l.digit-index
