use Rattle.std.proofs.Common.{◌≡◌, false, replicate}
use Rattle.prover_held.proofs.bits.no_bits.Given as goal

abbrev pub invariant-loop : goal.invariant-loop
invariant-loop l = l.bits ≡ replicate l.counter false
