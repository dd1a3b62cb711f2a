use Rattle.std.proofs.Common.{◌≡◌, ◌++◌, take}
use Rattle.prover_held.proofs.walking.joined.Given as goal

abbrev pub invariant-loop-bit : goal.invariant-loop-bit
invariant-loop-bit l = l.bits ≡ l.front ++ take l.bit-index l.back
