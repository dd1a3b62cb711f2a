use Rattle.std.proofs.Common.{drop, IsTrue}
use Rattle.gates_theory.specs.Circuits.{gates_within}
use Rattle.gates_theory.specs.Unrolled.{gates_clauses}
use Rattle.gates.proofs.Additions.{AddsSoFar}
use Rattle.gates.proofs.parts.add_gates.Given as goal

abbrev pub invariant-loop-before : goal.invariant-loop-before
invariant-loop-before l = record {
  so_far : AddsSoFar l.initial.clauses l.clauses (gates_clauses l.base l.before (drop l.before l.gates)) (gates_clauses l.base 0 l.gates);
  within : IsTrue (gates_within l.before (drop l.before l.gates));
}
