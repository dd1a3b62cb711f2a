use Rattle.std.proofs.Common.{◌≡◌, ◌++◌, map, neg_ℤ}
use Rattle.std.specs.List.{range_with_len}
use Rattle.joint_theory.specs.Bits.{count_bit}
use Rattle.joint.proofs.starts.push_counts.Given as goal

abbrev pub invariant-loop-number : goal.invariant-loop-number
invariant-loop-number l = l.literals ≡ l.initial.literals ++ map (λ number. neg_ℤ (count_bit l.product.netlist.now l.product.violation.now 0 number)) (range_with_len 0 l.number)
