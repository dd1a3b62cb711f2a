use Rattle.std.proofs.Common.{◌≡◌}
use Rattle.joint.specs.Slices.{numbers_from}
use Rattle.joint.proofs.bits.read_numbers.Given as goal

abbrev pub invariant-loop-number : goal.invariant-loop-number
invariant-loop-number l = l.numbers ≡ numbers_from l.values l.start l.number
