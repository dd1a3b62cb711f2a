use Rattle.std.proofs.Common.{◌-◌, map}
use Rattle.std.specs.List.{range_with_len}
use Rattle.run_terms.specs.Moves.{same_term, shift_terms}
use Rattle.run_terms.specs.Positions.{earlier, current}
use Rattle.run_gates.proofs.Terms.{HeldSoFar}
use Rattle.run_gates.proofs.netlists.add_shift.Given as goal

abbrev pub invariant-loop-signal : goal.invariant-loop-signal
invariant-loop-signal l = record {
  so_far : HeldSoFar l.initial.gates l.gates l.initial.held l.held
      (map (λ signal. same_term (earlier l.fn.next.base signal) (current l.fn.position.signals l.fn.position.base signal)) (range_with_len l.signal (l.fn.position.signals - l.signal)))
      (shift_terms l.fn.position.signals l.fn.position.base l.fn.next.base);
}
