use Rattle.std.proofs.Common.{◌≡◌, ◌≤◌}
use Rattle.joint.specs.Slices.{count_from}
use Rattle.joint.proofs.bits.read_count.Given as goal

abbrev pub invariant-loop-number : goal.invariant-loop-number
invariant-loop-number l = record { is : l.found ≡ count_from l.values l.start l.number; few : l.found ≤ l.number }
