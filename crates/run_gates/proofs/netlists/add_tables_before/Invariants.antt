use Rattle.std.proofs.Common.{drop}
use Rattle.run_terms.specs.Tables.{before_terms}
use Rattle.run_gates.proofs.Terms.{HeldSoFar}
use Rattle.run_gates.proofs.netlists.add_tables_before.Given as goal

abbrev pub invariant-loop-i : goal.invariant-loop-i
invariant-loop-i l = record {
  so_far : HeldSoFar l.initial.gates l.gates l.initial.held l.held (before_terms l.position.base (drop l.i l.tables)) (before_terms l.position.base l.tables);
}
