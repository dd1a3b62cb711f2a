use Rattle.std.proofs.Common.{◌≡◌}
use Rattle.joint.specs.Slices.{bits_from}
use Rattle.reach.proofs.reading.bits_in.Given as goal

abbrev pub invariant-loop-number : goal.invariant-loop-number
invariant-loop-number l = l.bits ≡ bits_from l.values l.start l.number
