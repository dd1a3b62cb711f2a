use Rattle.std.proofs.Common.{◌≡◌, ◌*◌, ◌≤◌, take}
use Rattle.bounded.specs.Places.{bits_of}
use Rattle.bounded.proofs.counting.bits_of.Given as goal

abbrev pub invariant-loop-number : goal.invariant-loop-number
invariant-loop-number l = record {
  are : l.bits ≡ bits_of l.width (take l.number l.automaton.obligations);
  few : l.bits ≤ 33 * l.number;
}
