use Rattle.std.proofs.Common.{drop}
use Rattle.run_terms.specs.Tables.{valuation_terms}
use Rattle.run_gates.proofs.Terms.{HeldSoFar}
use Rattle.run_gates.proofs.netlists.add_tables.Given as goal

abbrev pub invariant-loop-i : goal.invariant-loop-i
invariant-loop-i l = record {
  so_far : HeldSoFar l.initial.gates l.gates l.initial.held l.held (valuation_terms l.fn.position.signals l.fn.position.base (drop l.i l.tables)) (valuation_terms l.fn.position.signals l.fn.position.base l.tables);
}
