use Rattle.std.proofs.Common.{◌≡◌, map, take}
use Rattle.std.specs.List.{range_with_len}
use Rattle.bounded.specs.Places.{bits_of}
use Rattle.bounded.proofs.counting.starts_of.Given as goal

abbrev pub invariant-loop-number : goal.invariant-loop-number
invariant-loop-number l = record {
  bits : l.bits ≡ bits_of l.width (take l.number l.automaton.obligations);
  starts : l.starts ≡ map (λ number. bits_of l.width (take number l.automaton.obligations)) (range_with_len 0 l.number);
}
