use Rattle.std.proofs.Common.{◌≡◌, length, map, take}
use Rattle.alternating_theory.specs.Positive.{met}
use Rattle.alternating.specs.Packed.{letter_of}
use Rattle.alternating.specs.Stepped.{value_at}
use Rattle.alternating.specs.Views.{obligations_of_code}
use Rattle.alternating.proofs.step.step.Given as goal

abbrev pub invariant-loop-number : goal.invariant-loop-number
invariant-loop-number l = record {
  same_length : length l.into ≡ length l.obligations;
  written : take l.number l.into ≡ map (λ obligation. met obligation.delta (letter_of l.atoms l.letter) (λ number. value_at l.next number)) (obligations_of_code (take l.number l.obligations));
}
