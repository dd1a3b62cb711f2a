use Rattle.std.proofs.Common.{◌≡◌, suc, length}
use Rattle.gates_formula.proofs.Reached.{Asked}
use Rattle.gates_formula.proofs.asked.add_asked.Given as goal

abbrev pub invariant-loop-place : goal.invariant-loop-place
invariant-loop-place l = record {
  size : length l.marks ≡ suc l.initial.cnf.variables;
  added : Asked l.builder l.place l.fn.clauses l.initial.cnf l.cnf l.marks;
}
