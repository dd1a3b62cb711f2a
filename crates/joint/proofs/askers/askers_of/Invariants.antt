use Rattle.std.proofs.Common.{◌≡◌, ◌<◌}
use Rattle.std.specs.Prelude.{All, filter}
use Rattle.std.specs.List.{range_with_len}
use Rattle.alternating_theory.specs.Positive.{owes}
use Rattle.joint_theory.specs.Bits.{count_of}
use Rattle.joint_theory.specs.States.{delta_of}
use Rattle.joint.proofs.askers.askers_of.Given as goal

abbrev pub invariant-loop-other : goal.invariant-loop-other
invariant-loop-other l = record {
  so_far : l.numbers ≡ filter (λ other. owes (delta_of l.violation other) l.number) (range_with_len 0 l.other);
  below : All (λ other. other < count_of l.violation) l.numbers;
}
