use Rattle.run_gates.proofs.Digits.{ComparedSoFar}
use Rattle.run_gates.proofs.numbers.add_at_most.Given as goal

abbrev pub invariant-loop-digit : goal.invariant-loop-digit
invariant-loop-digit l = record {
  so_far : ComparedSoFar l.initial.gates l.gates l.fn.strict l.above l.first l.second l.width l.digit;
}
