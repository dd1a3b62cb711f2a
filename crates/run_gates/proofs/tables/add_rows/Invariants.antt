use Rattle.std.proofs.Common.{drop, map, false}
use Rattle.run_terms.specs.Booleans.{constant, either}
use Rattle.run_gates.specs.Building.{place_at, with_either}
use Rattle.run_gates.proofs.Folds.{JoinedSoFar}
use Rattle.run_gates.proofs.Rows.{row_terms}
use Rattle.run_gates.proofs.tables.add_rows.Given as goal

abbrev pub invariant-loop-i : goal.invariant-loop-i
invariant-loop-i l = record {
  so_far : JoinedSoFar either with_either (constant false) l.initial.gates l.gates l.found
      (row_terms (map (place_at l.offset) l.inputs) (drop l.i l.rows))
      (row_terms (map (place_at l.offset) l.inputs) l.rows);
}
