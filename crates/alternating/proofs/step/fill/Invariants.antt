use Rattle.std.proofs.Common.{◌≡◌, length, map, take}
use Rattle.alternating_theory.specs.Obligations.{value_past}
use Rattle.alternating.specs.Beyonds.{past_of}
use Rattle.alternating.specs.Views.{obligations_of_code}
use Rattle.alternating.proofs.step.fill.Given as goal

abbrev pub invariant-loop-number : goal.invariant-loop-number
invariant-loop-number l = record {
  same_length : length l.into ≡ length l.obligations;
  written : take l.number l.into ≡ map (λ obligation. value_past (past_of l.beyond) obligation) (obligations_of_code (take l.number l.obligations));
}
