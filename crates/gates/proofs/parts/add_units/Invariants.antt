use Rattle.std.proofs.Common.{drop, IsTrue}
use Rattle.clauses.specs.Literals.{clause_within}
use Rattle.gates_theory.specs.Unrolled.{units}
use Rattle.gates.proofs.Additions.{AddsSoFar}
use Rattle.gates.proofs.parts.add_units.Given as goal

abbrev pub invariant-loop-i : goal.invariant-loop-i
invariant-loop-i l = record {
  so_far : AddsSoFar l.initial.clauses l.clauses (units l.base (drop l.i l.literals)) (units l.base l.literals);
  within : IsTrue (clause_within l.variables (drop l.i l.literals));
}
