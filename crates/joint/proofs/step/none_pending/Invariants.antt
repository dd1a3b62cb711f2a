use Rattle.std.proofs.Common.{◌≡◌, map, neg_ℤ}
use Rattle.std.specs.Prelude.{All, IsTrue}
use Rattle.std.specs.List.{range_with_len}
use Rattle.clauses.specs.Literals.{is_literal}
use Rattle.joint_theory.specs.Bits.{pending_bit}
use Rattle.joint.proofs.step.none_pending.Given as goal

abbrev pub invariant-loop-number : goal.invariant-loop-number
invariant-loop-number l = record {
  so_far : l.literals ≡ map (λ number. neg_ℤ (pending_bit l.product.netlist.now l.product.violation.now 0 number)) (range_with_len 0 l.number);
  literals : All (λ literal. IsTrue (is_literal literal)) l.literals;
}
