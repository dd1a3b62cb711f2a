use Rattle.std.proofs.Common.{drop, IsTrue}
use Rattle.clauses.specs.Literals.{clauses_within}
use Rattle.gates_formula.proofs.Additions.{AddsSoFar}
use Rattle.gates_formula.proofs.adding.add_all.Given as goal

abbrev pub invariant-loop-i : goal.invariant-loop-i
invariant-loop-i l = record {
  so_far : AddsSoFar l.initial.cnf l.cnf (drop l.i l.clauses) l.clauses;
  within : IsTrue (clauses_within l.initial.cnf.variables (drop l.i l.clauses));
}
