use Rattle.std.proofs.Common.{drop, map}
use Rattle.run_terms.specs.Moves.{latch_term}
use Rattle.run_gates.proofs.Terms.{HeldSoFar}
use Rattle.run_gates.proofs.netlists.add_latches.Given as goal

abbrev pub invariant-loop-i : goal.invariant-loop-i
invariant-loop-i l = record {
  so_far : HeldSoFar l.initial.gates l.gates l.initial.held l.held
      (map (latch_term l.fn.position.signals l.fn.position.base l.fn.next.base) (drop l.i l.latches))
      (map (latch_term l.fn.position.signals l.fn.position.base l.fn.next.base) l.latches);
}
