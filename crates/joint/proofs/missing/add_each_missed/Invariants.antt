use Rattle.std.proofs.Common.{◌+◌, drop}
use Rattle.run_formulas.proofs.Additions.{AddsSoFar}
use Rattle.joint_selectors.specs.Missed.{each_missed}
use Rattle.joint.proofs.missing.add_each_missed.Given as goal

abbrev pub invariant-loop-place : goal.invariant-loop-place
invariant-loop-place l = record {
  so_far : AddsSoFar l.initial.cnf l.cnf (each_missed l.base (l.before + l.place) (drop l.place l.clauses)) (each_missed l.base l.before l.clauses);
}
