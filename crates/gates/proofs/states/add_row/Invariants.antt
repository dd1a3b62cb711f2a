use Rattle.std.proofs.Common.{◌≡◌, ◌++◌, length}
use Rattle.gates_theory.specs.Distinct.{row_clauses, variables_before}
use Rattle.gates.proofs.states.add_row.Given as goal

abbrev pub invariant-loop-earlier : goal.invariant-loop-earlier
invariant-loop-earlier l = record {
  added : l.clauses ≡ l.initial.clauses ++ row_clauses l.circuit l.variables l.later l.earlier;
  used : l.used ≡ variables_before l.circuit l.variables l.earlier l.later;
  buffer : length l.buffer ≡ length l.initial.buffer;
}
