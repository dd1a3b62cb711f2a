use Rattle.std.proofs.Common.{◌+◌, drop, IsTrue}
use Rattle.clauses.specs.Literals.{clause_within}
use Rattle.gates_theory.specs.Distinct.{differences}
use Rattle.gates.proofs.Additions.{AddsSoFar}
use Rattle.gates.proofs.states.add_differences.Given as goal

abbrev pub invariant-loop-i : goal.invariant-loop-i
invariant-loop-i l = record {
  so_far : AddsSoFar l.initial.clauses l.clauses (differences (l.pair.variables + l.i) l.pair.low l.pair.high (drop l.i l.literals)) (differences l.pair.variables l.pair.low l.pair.high l.literals);
  within : IsTrue (clause_within l.size (drop l.i l.literals));
}
