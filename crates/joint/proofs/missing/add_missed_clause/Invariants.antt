use Rattle.std.proofs.Common.{drop, IsTrue}
use Rattle.clauses.specs.Literals.{clause_within}
use Rattle.run_formulas.proofs.Additions.{AddsSoFar}
use Rattle.joint_selectors.specs.Missed.{missed}
use Rattle.joint.proofs.missing.add_missed_clause.Given as goal

abbrev pub invariant-loop-i : goal.invariant-loop-i
invariant-loop-i l = record {
  so_far : AddsSoFar l.initial.cnf l.cnf (missed l.base l.before (drop l.i l.clause)) (missed l.base l.before l.clause);
  within : IsTrue (clause_within l.size (drop l.i l.clause));
}
