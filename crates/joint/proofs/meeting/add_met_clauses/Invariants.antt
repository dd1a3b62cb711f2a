use Rattle.std.proofs.Common.{drop}
use Rattle.run_formulas.proofs.Additions.{AddsSoFar}
use Rattle.joint.proofs.meeting.add_met_clauses.Given as goal

abbrev pub invariant-loop-place : goal.invariant-loop-place
invariant-loop-place l = record {
  so_far : AddsSoFar l.initial.cnf l.cnf (drop l.place l.clauses) l.clauses;
}
