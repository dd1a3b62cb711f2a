use Rattle.std.proofs.Common.{◌≡◌, ◌++◌, [], ◌∷◌, map}
use Rattle.std.specs.List.{range_with_len}
use Rattle.joint_theory.specs.Bits.{owed_bit}
use Rattle.joint_theory.specs.Queries.{with_sign}
use Rattle.joint_theory.specs.States.{is_listed}
use Rattle.joint.proofs.starts.push_owed.Given as goal

abbrev pub invariant-loop-number : goal.invariant-loop-number
invariant-loop-number l = l.literals ≡ l.initial.literals ++ map (λ number. with_sign (is_listed (l.product.violation.now.start ∷ []) number) (owed_bit l.product.netlist.now 0 number)) (range_with_len 0 l.number)
